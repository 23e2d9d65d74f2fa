-- What an iterator gave, where it is known what it gives.
-- Assumes nothing.
use Rattle.std.proofs.Common.{◌≡◌, List, Option, sym, ◌∙◌}
use Rattle.std.specs.Iterator.{Drains}
use Rattle.std.proofs.lemmas.Iterator.{YieldsList, items_from_drains}
use Rattle.std.proofs.lemmas.List.{map-id}

-- the items that an iterator gave are those that it gives
pub all-items :
    {S A : Type 0} {steps : S → Option A → S → Type 0} {s : S} {items : List A} (given : List A) →
    Drains steps s given →
    YieldsList steps (λ item. item) s items →
    given ≡ items
all-items given (u, (t, ran, ended)) yields = sym (map-id given) ∙ items_from_drains given (t, ran, λ _. (u, ended)) yields
