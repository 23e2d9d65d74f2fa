-- A part of some bytes passes the check exactly where it is a text: UTF-8, with no NUL inside.
-- Assumes nothing.
use Rattle.std.specs.Prelude.{Ok}
use Prim.Native.Nat.{ℕ}
use mathlib.Core.Bool.{not}
use mathlib.Core.List.{List, []}
use mathlib.Core.Path.{◌≡◌, refl, ap}
use borrow.Author.Tests.{not-true}
use Rattle.find.specs.Find.{until}
use Rattle.find.specs.Nul.{until_nul, has_nul}
use Rattle.utf8.proofs.Laws.{empty}
use Rattle.layout.specs.Spans.{part}
use Rattle.layout.specs.TextCheck.{check_whole, check_text}
use Rattle.layout.proofs.Checked.{check-good, check-passes}
use Rattle.format.specs.WellFormed.{Text}

pub whole-ok : (text : List ℕ) → check_whole text ≡ Ok tt → Text text
whole-ok text e =
    let utf8 = check-good _ _ _ _ e in
    let closed = check-good _ _ _ _ utf8.1 in
    record { utf8 = utf8.0; closed = not-true (has_nul text) closed.0 }

pub ok-whole : (text : List ℕ) → Text text → check_whole text ≡ Ok tt
ok-whole text ok = check-passes _ _ _ ok.utf8 (check-passes _ _ _ (ap not ok.closed) refl)

module _ (bytes : List ℕ) (start count : ℕ) where
  pub text-ok : check_text bytes start count ≡ Ok tt → Text (part bytes start count)
  unfolding check_text
  text-ok e = whole-ok (part bytes start count) e

  pub ok-text : (text : List ℕ) → part bytes start count ≡ text → Text text → check_text bytes start count ≡ Ok tt
  unfolding check_text
  ok-text text is ok = rw is (ok-whole text ok)

pub empty-text : Text []
unfolding until_nul until
empty-text = record { utf8 = empty; closed = refl }
