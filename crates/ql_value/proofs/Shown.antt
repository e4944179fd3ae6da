-- Parts of a printed text.
use Rattle.std.proofs.Common.{◌≡◌, ℕ, ◌+◌, ◌-◌, Bool, List, [], ◌++◌, Result, Ok, Err, OnErr, length, take, drop, sym, ap, ◌∙◌, append_assoc, append-nil, arith, length-drop}
use Rattle.std.proofs.lemmas.List.{take-append-drop, take_all}
use Rattle.std.proofs.lemmas.Grind.{flat_map-append}
use Rattle.std.proofs.Math.Seq.{take-add}
use Rattle.ql_value.specs.Print.{AddsFront, shown_byte, shown_bytes}

-- what holds at an error holds at any
pub on_err : {T E : Type 0} (r : Result T E) (P : Type 0) → P → OnErr r P
on_err (Ok x) P p = tt
on_err (Err e) P p = p

pub split : (in_blob : Bool) (n : ℕ) (bytes : List ℕ) → shown_bytes in_blob bytes ≡ shown_bytes in_blob (take n bytes) ++ shown_bytes in_blob (drop n bytes)
split in_blob n bytes =
    ap (shown_bytes in_blob) (sym (take-append-drop n bytes)) ∙ flat_map-append (shown_byte in_blob) (take n bytes) (drop n bytes)

-- some of the bytes were added whole
pub front_of : (in_blob : Bool) (bytes old new : List ℕ) (n : ℕ) → new ≡ old ++ shown_bytes in_blob (take n bytes) → AddsFront old new (shown_bytes in_blob bytes)
front_of in_blob bytes old new n e = record {
  written = shown_bytes in_blob (take n bytes);
  missing = shown_bytes in_blob (drop n bytes);
  added = e;
  front = split in_blob n bytes;
}

-- a front of the part after what was added before
pub front_after : (old mid new before part behind whole : List ℕ) → mid ≡ old ++ before → AddsFront mid new part → whole ≡ before ++ part ++ behind → AddsFront old new whole
front_after old mid new before part behind whole e f w = record {
  written = before ++ f.written;
  missing = f.missing ++ behind;
  added = f.added ∙ ap (λ (x : List ℕ). x ++ f.written) e ∙ append_assoc old before f.written;
  front = w ∙ ap (λ (x : List ℕ). before ++ x ++ behind) f.front ∙ simp append_assoc;
}

-- what is left of the bytes as the code takes it
rest : (at : ℕ) (bytes : List ℕ) → take (length bytes - at) (drop at bytes) ≡ drop at bytes
rest at bytes = take_all _ _ (omega (arith, length-drop at bytes))

-- a front of what is left of the bytes
pub front_of_rest : (in_blob : Bool) (bytes old mid new : List ℕ) (at : ℕ) → mid ≡ old ++ shown_bytes in_blob (take at bytes) → AddsFront mid new (shown_bytes in_blob (take (length bytes - at) (drop at bytes))) → AddsFront old new (shown_bytes in_blob bytes)
front_of_rest in_blob bytes old mid new at e f =
    front_after old mid new _ _ [] _ e f (split in_blob at bytes ∙ simp (rest at bytes, append-nil))

-- one run more
pub shown_more : (in_blob : Bool) (bytes old mid new : List ℕ) (at n : ℕ) → mid ≡ old ++ shown_bytes in_blob (take at bytes) → new ≡ mid ++ shown_bytes in_blob (take n (take (length bytes - at) (drop at bytes))) → new ≡ old ++ shown_bytes in_blob (take (at + n) bytes)
shown_more in_blob bytes old mid new at n e f =
    let piece : List ℕ = take n (take (length bytes - at) (drop at bytes)) in
    f ∙ ap (λ (x : List ℕ). x ++ shown_bytes in_blob piece) e ∙ append_assoc old (shown_bytes in_blob (take at bytes)) (shown_bytes in_blob piece)
    ∙ ap (λ (x : List ℕ). old ++ x)
    (ap (λ (x : List ℕ). shown_bytes in_blob (take at bytes) ++ shown_bytes in_blob (take n x)) (rest at bytes)
    ∙ sym (ap (shown_bytes in_blob) (take-add at n bytes) ∙ flat_map-append (shown_byte in_blob) (take at bytes) (take n (drop at bytes))))
