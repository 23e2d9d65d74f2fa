-- `check_entry` meets its contract: its tests are those of `entry`, and what follows the header up to the aligned size is the text, its terminator and
-- the padding.
use Rattle.std.proofs.Common.{◌≡◌, ℕ, ◌+◌, ◌-◌, ◌<◌, ◌≤◌, List, ◌∙◌, sym, ap, refl, arith}
use Rattle.std.specs.Result.{result_ok}
use Rattle.std.proofs.lemmas.Result.{err_from_is_err_and}
use borrow.Author.Tests.{le-leb, lt-ltb, eq-eqb}
use Rattle.std.specs.Prelude.{Ok, Err}
use Rattle.wire.specs.Length.{wire_size}
use Rattle.wire.specs.Number.{u32_at}
use Rattle.wire.specs.Padding.{padding, aligned}
use Rattle.wire.proofs.LengthLaws.{wire_size-terminated, no_text}
use Rattle.wire.proofs.PaddingLaws.{le-aligned}
use Rattle.layout.proofs.Checked.{after-fault, after-good, refused-by}
use Rattle.layout.specs.Checked.{check, then}
use Rattle.format.specs.Parse.{terminated_text, entry}
use Rattle.parse.specs.Outcome.{place_of}
use Rattle.parse.proofs.entries.check_entry.Goals as goal

pub returns-in_err-text : goal.returns-in_err-text
unfolding entry check
returns-in_err-text c =
    let p = err_from_is_err_and c.from_residual.result c.from_residual.ensures.1 in
    let (no-text, refusal) = refused-by _ c.ok_or.ensures.value c.in_err-text.was in
    let none : c.read_u32-size.result ≡ 0 = no_text c.read_u32-size.result (omega arith) (sym c.text_length.ensures ∙ no-text) in
    p.1 ∙ ap Err (p.2 ∙ refusal) ∙
    rw (← c.header_size-header.ensures.value, ← c.read_u32.ensures, ← c.read_u32-size.ensures, le-leb (c.args.at + c.header_size-header.result) c.args.part.end (omega arith), eq-eqb _ 0 c.if-read_u32-ne0.false, none)

-- the size counts the text and its terminator
pub terminated_utf8-requires-clause-text_bound : goal.terminated_utf8-requires-clause-text_bound
terminated_utf8-requires-clause-text_bound c =
    let counts = wire_size-terminated c.read_u32-size.result _ (sym c.text_length.ensures ∙ c.ok_or.ensures.ok_part ∙ ap result_ok c.in_ok-text.was) in
    omega (arith, counts, le-aligned (c.header_size-header.result + c.read_u32-size.result))

-- an entry whose tests hold up to its text, which fills it together with its terminator and the zeros
held :
    (header : ℕ) (p : List ℕ) (at end size long : ℕ) →
    at + header ≤ end →
    u32_at p (at + 4) ≡ 0 →
    size ≡ u32_at p (at + 8) →
    0 < size →
    u32_at p at ≡ long →
    long ≡ aligned (header + size) →
    at + long ≤ end →
    entry header p at end ≡ then (terminated_text p (at + header) size (padding (header + size))) (λ _. Ok (size - 1))
unfolding entry check
held header p at end size long fits flags told some is whole within =
    rw (
      ← told,
      le-leb (at + header) end fits,
      eq-eqb _ 0 flags,
      lt-ltb 0 size some,
      eq-eqb _ _ (is ∙ whole),
      le-leb (at + aligned (header + size)) end (omega (arith, within, whole)),
    )

-- what `terminated_utf8` was asked of is what is left of the entry's tests
asked :
    (p : List ℕ) (at start n end size long header : ℕ) →
    start ≡ at + header →
    size ≡ wire_size n →
    long ≡ aligned (header + size) →
    terminated_text p start (wire_size n) (at + long - (start + wire_size n)) ≡ terminated_text p (at + header) size (padding (header + size))
unfolding aligned
asked p at start n end size long header there counts whole =
    let zeros : at + long - (start + wire_size n) ≡ padding (header + size) = omega (arith, there, counts, whole) in
    rw (zeros, there, ← counts) refl

pub returns-in_err-terminated_utf8 : goal.returns-in_err-terminated_utf8
returns-in_err-terminated_utf8 c =
    let p = err_from_is_err_and c.from_residual-in_err-terminated_utf8.result c.from_residual-in_err-terminated_utf8.ensures.1 in
    let counts = wire_size-terminated c.read_u32-size.result _ (sym c.text_length.ensures ∙ c.ok_or.ensures.ok_part ∙ ap result_ok c.in_ok-text.was) in
    let whole = c.align4-aligned.ensures in
    let text = sym (asked _ c.args.at _ _ c.args.part.end _ _ c.header_size-header.result refl counts whole) ∙ sym c.in_err-terminated_utf8.ensures in
    rw (p.1, p.2, ← c.header_size-header.ensures.value)
    (sym (ap (place_of _) (held _ _ _ _ _ _ (omega arith) (sym c.read_u32.ensures ∙ c.if-read_u32-ne0.false) c.read_u32-size.ensures (omega (arith, counts)) (sym c.read_u32-2.ensures ∙ c.if-read_u32-aligned.false) whole (omega arith) ∙ after-fault _ _ text)))

pub returns : goal.returns
returns c =
    let counts = wire_size-terminated c.read_u32-size.result _ (sym c.text_length.ensures ∙ c.ok_or.ensures.ok_part ∙ ap result_ok c.in_ok-text.was) in
    let whole = c.align4-aligned.ensures in
    let text = sym (asked _ c.args.at _ _ c.args.part.end _ _ c.header_size-header.result refl counts whole) ∙ sym c.in_ok-terminated_utf8.ensures in
    let back : wire_size (c.read_u32-size.result - 1) ≡ c.read_u32-size.result = omega (arith, counts) in
    rw (← c.header_size-header.ensures.value)
    (sym (ap (place_of _) (held _ _ _ _ _ _ (omega arith) (sym c.read_u32.ensures ∙ c.if-read_u32-ne0.false) c.read_u32-size.ensures (omega (arith, counts)) (sym c.read_u32-2.ensures ∙ c.if-read_u32-aligned.false) whole (omega arith) ∙ after-good _ _ text)
    ∙ ap (λ (n : ℕ). Ok (c.args.at + aligned (c.header_size-header.result + n))) back
    ∙ ap (λ (n : ℕ). Ok (c.args.at + n)) (sym whole)))
