-- `fill_pairs` meets its contract: a turn stores the pair of its byte.
use Rattle.std.proofs.Common.{◌≡◌, ◌+◌, ◌*◌, ◌/◌, ◌%◌, [], ◌∷◌, ◌++◌, List, ℕ, refl, sym, ap, ◌∙◌, length, get_or, take, set, arith}
use mathlib.Core.List.{flat_map}
use lib.Seq.{take-length}
use Rattle.std.proofs.lemmas.List.{append_assoc, length-set, take_more_set}
use Rattle.sheet.specs.Fields.{hex_digit, hex_pairs}
use Rattle.field_writer.proofs.Fields.{pairs-more}
use Rattle.field_writer.proofs.hex.fill_pairs.Goals as goal

pub loop-i-init : goal.loop-i-init
unfolding hex_pairs flat_map
loop-i-init c = refl

pub loop-i-preserved : goal.loop-i-preserved
loop-i-preserved c =
    let bytes = c.args.bytes.now in
    let i = c.loop-i.i in
    let first : ℕ = hex_digit (get_or bytes i 0 / 16) in
    let second : ℕ = hex_digit (get_or bytes i 0 % 16) in
    let next : 2 * (i + 1) ≡ 2 * i + 1 + 1 = omega arith in
    let once = take_more_set c.loop-i.to (2 * i) first (omega arith) in
    let twice = take_more_set (set c.loop-i.to (2 * i) first) (2 * i + 1) second (omega (arith, length-set c.loop-i.to (2 * i) first)) in
    rw (c.pair.ensures, next, twice, once)
    (ap (λ (s : List ℕ). (s ++ first ∷ []) ++ second ∷ []) c.loop-i.invariant ∙
    append_assoc (hex_pairs (take i bytes)) (first ∷ []) (second ∷ []) ∙
    sym (pairs-more bytes i c.loop-i-test.true))

pub returns : goal.returns
returns c =
    let to = c.loop-i.to in
    let bytes = c.args.bytes.now in
    let i = c.loop-i.i in
    let long : 2 * i ≡ length to = omega arith in
    let all : i ≡ length bytes = omega arith in
    sym (ap (λ (n : ℕ). take n to) long ∙ take-length to) ∙ c.loop-i.invariant ∙ ap hex_pairs (ap (λ (n : ℕ). take n bytes) all ∙ take-length bytes)
