-- The encoding of well-formed sections is bytes: its numbers, its texts, its zeros, and the bytes that it keeps.
-- Assumes nothing.
use Prim.Native.Nat.{ℕ, zero, suc}
use mathlib.Core.List.{List, [], ◌∷◌, ◌++◌, flat_map}
use native.Mathlib.Omega.{arith}
use lib.ListN.{length, replicate}
use Rattle.utf8.proofs.Bytes.{well-formed-bytes}
use Rattle.wire.specs.Number.{bytes_of}
use Rattle.wire.specs.Padding.{padding}
use Rattle.wire.proofs.NumberLaws.{bytes_of-below}
use Rattle.format.specs.Encoding.{padded, terminate, content_entry, name_entry, pair_entry, stored_bytes, body_header, encode_section, encode}
use Rattle.format.specs.RoundTrips.{EncodedBytes}
use Rattle.format.specs.Sections.{Name, Pair, Section, plain, packed, names, arguments, unknown}
use Rattle.format.specs.WellFormed.{Bytes, All, Text, NameOk, PairOk, WellFormed}

-- ---- one after the other

-- a name of its own, from which the list can be inferred
record AllBytes (s : List ℕ) : Type 0 where
  all : Bytes s

join : (s t : List ℕ) → Bytes s → Bytes t → Bytes (s ++ t)
join [] t h k i = k i
join (b ∷ s) t h k zero = h 0
join (b ∷ s) t h k (suc i) = join s t (λ j. h (suc j)) k i

both : {s t : List ℕ} → AllBytes s → AllBytes t → AllBytes (s ++ t)
both {s} {t} h k = record { all = join s t h.all k.all }

number : (w n : ℕ) → AllBytes (bytes_of w n)
number w n = record { all = bytes_of-below w n }

zeros : (n : ℕ) → AllBytes (replicate n 0)
zeros n = record { all = go n }
  where
    go : (n : ℕ) → Bytes (replicate n 0)
    go zero k = omega arith
    go (suc n) zero = omega arith
    go (suc n) (suc k) = go n k

pad : {s : List ℕ} → AllBytes s → AllBytes (padded s)
pad {s} h = both h (zeros (padding (length s)))

closed : (s : List ℕ) → Text s → AllBytes (terminate s)
closed s ok = both {s = s} (record { all = well-formed-bytes s ok.utf8 }) (zeros 1)

run : {A : Type 0} (Good : A → Type 0) (f : A → List ℕ) → ((a : A) → Good a → AllBytes (f a)) → (l : List A) → All Good l → AllBytes (flat_map f l)
unfolding flat_map
run Good f h [] oks = zeros 0
run Good f h (a ∷ l) (ok, oks) = both (h a ok) (run Good f h l oks)

-- ---- entries

content : (text : List ℕ) → Text text → AllBytes (content_entry text)
unfolding content_entry
content text ok = pad (both (number 4 _) (both (number 4 0) (both (number 4 _) (closed text ok))))

name : (x : Name) → NameOk x → AllBytes (name_entry x)
unfolding name_entry
name x ok = pad (both (number 4 _) (both (number 4 0) (both (number 4 _) (both (number 4 _) (closed x.text ok.text)))))

pair : (x : Pair) → PairOk x → AllBytes (pair_entry x)
unfolding pair_entry
pair x ok = both (closed x.name ok.name) (closed x.value ok.value)

-- ---- sections

stored : (s : Section) → WellFormed s → AllBytes (stored_bytes s)
unfolding stored_bytes
stored (plain header texts) ok = run Text content_entry content texts ok.1
stored (packed header stream count uncompressed) ok = record { all = ok.1 }
stored (names ns) ok = run NameOk name_entry name ns ok
stored (arguments xs) ok = run PairOk pair_entry pair xs ok
stored (unknown kind bytes) ok = record { all = ok.2 }

header : (s : Section) (n : ℕ) → AllBytes (body_header s n)
unfolding body_header
header (plain field texts) n = both (number 4 _) (both (number 2 _) (both (number 2 _) (both (number 4 _) (both (number 4 _) (number 4 _)))))
header (packed field stream count uncompressed) n =
    both (number 4 _) (both (number 2 _) (both (number 2 _) (both (number 4 _) (both (number 4 _) (number 4 _)))))
header (names ns) n = both (number 4 _) (both (number 4 _) (number 2 _))
header (arguments xs) n = both (number 4 _) (both (number 4 _) (number 4 _))
header (unknown kind bytes) n = zeros 0

section : (s : Section) → WellFormed s → AllBytes (encode_section s)
unfolding encode_section
section s ok = pad (both (number 4 _) (both (number 2 0) (both (number 2 _) (both (header s (length (stored_bytes s))) (stored s ok)))))

whole : (ss : List Section) → All WellFormed ss → AllBytes (encode ss)
unfolding encode
whole ss ok = both (number 4 _) (both (number 2 0) (both (number 2 _) (run WellFormed encode_section section ss ok)))

pub encoded-bytes : EncodedBytes
encoded-bytes ss ok = (whole ss ok).all
