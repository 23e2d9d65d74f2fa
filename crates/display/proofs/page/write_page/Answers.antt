-- `write_page` meets its contract: where something is said of the next section, a turn stores its line after those so far.
use Rattle.std.proofs.Common.{◌∷◌, [], ◌++◌, append_assoc, append-nil, length, length-append, refl, sym, ap, ◌∙◌, arith}
use Rattle.std.specs.List.{cons_option, filter_map}
use Rattle.std.proofs.lemmas.List.Edits.{sets}
use Rattle.wire.proofs.Sets.{sets-joined}
use Rattle.format.specs.Display.{line}
use Rattle.accepted.specs.Sections.{sections}
use Rattle.display.proofs.LineLaws.{page-next, page-none, page-counted}
use Rattle.display.specs.Summary.{page_of, summary_line}
use Rattle.display.proofs.page.write_page.Goals as goal

pub loop-section-init : goal.loop-section-init
loop-section-init g c =
    let h = c.write_heading-to.ensures in
    rw (c.into_iter-section-iterator.ensures.into_iter_gives, c.new-section-items.ensures.value)
    (record {
      lines = [];
      left = refl;
      numbered = refl;
      bound = h.upper_bound;
      ends = rw (page-none (length (filter_map g.P.Page.said (sections c.args.payload.bytes.now))), ← c.line_count.ensures) h.value;
      stored = rw (page-none (length (filter_map g.P.Page.said (sections c.args.payload.bytes.now))), ← c.line_count.ensures) h.output_after;
    })

pub loop-section-preserved-in-Some-summarize : goal.loop-section-preserved-in-Some-summarize
loop-section-preserved-in-Some-summarize g c =
    let so = c.loop-section.invariant in
    let said = g.P.Page.said in
    let count = length (filter_map said (sections c.args.payload.bytes.now)) in
    let summary = c.in-Some-summarize.summary in
    let left = filter_map said c.next.new.self in
    let next = ap (filter_map said) c.in-Some.ensures.steps ∙ ap (λ o. cons_option o left) (sym c.in-Some-summarize.ensures) in
    let w = c.write_line-to.ensures in
    let longer = page-next count c.loop-section.place so.lines summary so.numbered in
    let piece = line c.loop-section.place (summary_line summary) in
    record {
      lines = so.lines ++ summary ∷ [];
      left = append_assoc so.lines (summary ∷ []) left ∙ (rw next at so.left);
      numbered = omega (arith, so.numbered, length-append so.lines (summary ∷ []));
      bound = omega (arith, so.bound, w.upper_bound);
      ends = omega (arith, w.value, so.ends, ap length longer, length-append (page_of count so.lines) piece);
      stored = rw longer (w.output_after ∙ rw so.stored (sets-joined (page_of count so.lines) piece c.args.output.now 0 c.loop-section.to (omega (arith, so.ends))));
    }

pub returns : goal.returns
returns g c =
    let so = c.loop-section.invariant in
    let p = c.args.payload.bytes.now in
    let said = g.P.Page.said in
    let all = sym (append-nil so.lines) ∙ rw c.in-None.ensures.steps.0 at so.left in
    let page = ap (page_of (length (filter_map said (sections p)))) all ∙ page-counted said p refl in
    record { value = so.ends ∙ ap length page; output_after = so.stored ∙ ap (sets c.args.output.now 0) page }
