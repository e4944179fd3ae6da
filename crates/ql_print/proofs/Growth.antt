-- How a printed text grows.
use Rattle.std.proofs.Common.{◌≡◌, ℕ, List, [], ◌++◌, sym, ap, ◌∙◌, append_assoc, append-nil}
use Rattle.std.proofs.lemmas.Grind.{flat_map-append}
use Rattle.ql_syntax.specs.Ink.{Ink, bytes_of, text_of, Grows}

-- it stays
pub grow_same : (old new : List ℕ) → new ≡ old → Grows old new
grow_same old new e = record { more = []; added = e ∙ sym (append-nil old) }

-- it has more
pub grow_by : (old new more : List ℕ) → new ≡ old ++ more → Grows old new
grow_by old new more e = record { more = more; added = e }

-- one step after another
pub grow_on : {old mid new : List ℕ} → Grows old mid → Grows mid new → Grows old new
grow_on {old = old} g h = record {
  more = g.more ++ h.more;
  added = h.added ∙ ap (λ (x : List ℕ). x ++ h.more) g.added ∙ append_assoc old g.more h.more;
}

-- the text of two parts
pub text_append : (xs ys : List Ink) → text_of (xs ++ ys) ≡ text_of xs ++ text_of ys
text_append xs ys = flat_map-append bytes_of xs ys
