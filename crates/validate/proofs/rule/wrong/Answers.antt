-- Where none of the comparisons tells a wrong byte, the byte is right.
use borrow.Author.Tests.{ltb-false, leb-false, le-leb, eq-eqb}
use Rattle.std.proofs.lemmas.Bool.{or_parts}
use Rattle.validate.proofs.RuleLaws.{and-false, not-ne, flat-right}
use Rattle.validate.proofs.rule.wrong.Goals as goal

pub returns : goal.returns
returns c e =
    let (e₃, never) = or_parts _ _ e in
    let (e₂, above) = or_parts _ _ e₃ in
    let (e₁, surrogate) = or_parts _ _ e₂ in
    let (same, overlong) = or_parts _ _ e₁ in
    let (three, four) = or_parts _ _ overlong in
    let (low, high) = or_parts _ _ never in
    let byte = c.args.byte in
    flat-right c.args.p3 c.args.p2 c.args.p1 byte (not-ne _ _ same)
    (λ q. ltb-false byte 0xA0 (and-false _ _ three (eq-eqb _ _ q)))
    (λ q. leb-false 0xA0 byte (and-false _ _ surrogate (eq-eqb _ _ q)))
    (λ q. ltb-false byte 0x90 (and-false _ _ four (eq-eqb _ _ q)))
    (λ q. leb-false 0x90 byte (and-false _ _ above (eq-eqb _ _ q)))
    (λ l. ltb-false byte 0xC2 (and-false _ _ low (le-leb _ _ l)))
    (leb-false 0xF5 byte high)
