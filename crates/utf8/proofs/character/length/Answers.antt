-- The class of the first byte says which ranges the other bytes have.
use Rattle.std.proofs.Common.{arith, refl, sym, ◌∙◌, ap, ⊎_elim}
use Rattle.utf8.specs.Rfc3629.{begins, alternatives}
use Rattle.utf8.specs.Classes.{length_after, nonzero}
use Rattle.utf8.proofs.Alternatives.{length_at, at-class, length-past}
use Rattle.utf8.proofs.character.length.Goals as goal

pub returns-in-0 : goal.returns-in-0
unfolding length_at length_after begins
returns-in-0 c = ap nonzero (at-class c.args.text.now c.args.at 0 _ c.requires c.class.ensures c.in-0.is)

pub returns-in-1 : goal.returns-in-1
unfolding length_at
returns-in-1 c = c.after.ensures ∙ ap nonzero (at-class c.args.text.now c.args.at 1 _ c.requires c.class.ensures c.in-1.is)

pub returns-in-2 : goal.returns-in-2
unfolding length_at
returns-in-2 c = c.after-in-2.ensures ∙ ap nonzero (at-class c.args.text.now c.args.at 2 _ c.requires c.class.ensures c.in-2.is)

pub returns-in-3 : goal.returns-in-3
unfolding length_at
returns-in-3 c =
    let of = at-class c.args.text.now c.args.at in
    c.after-in-3.ensures ∙
    ap nonzero (⊎_elim (of 3 _ c.requires c.class.ensures) (of 5 _ c.requires c.class.ensures) c.in-3.is)

pub returns-in-4 : goal.returns-in-4
unfolding length_at
returns-in-4 c = c.after-in-4.ensures ∙ ap nonzero (at-class c.args.text.now c.args.at 4 _ c.requires c.class.ensures c.in-4.is)

pub returns-in-6 : goal.returns-in-6
unfolding length_at
returns-in-6 c = c.after-in-6.ensures ∙ ap nonzero (at-class c.args.text.now c.args.at 6 _ c.requires c.class.ensures c.in-6.is)

pub returns-in-7 : goal.returns-in-7
unfolding length_at
returns-in-7 c = c.after-in-7.ensures ∙ ap nonzero (at-class c.args.text.now c.args.at 7 _ c.requires c.class.ensures c.in-7.is)

pub returns-in-8 : goal.returns-in-8
unfolding length_at
returns-in-8 c = c.after-in-8.ensures ∙ ap nonzero (at-class c.args.text.now c.args.at 8 _ c.requires c.class.ensures c.in-8.is)

pub returns-in-9-to-255 : goal.returns-in-9-to-255
returns-in-9-to-255 c =
    ap nonzero
    (sym (length-past c.class.result alternatives _ (grind arith)) ∙
    at-class c.args.text.now c.args.at _ _ c.requires c.class.ensures refl)
