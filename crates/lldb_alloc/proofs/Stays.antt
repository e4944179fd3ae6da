-- What a stop may leave, over calls one after the other.
use Rattle.std.proofs.Common.{◌≡◌, ℕ, List, Option, refl, sym, ◌∙◌, subst, inl, inr, arith}
use Rattle.ql_edge.specs.Stops.{IsSameBut, IsBetween}
use Rattle.ql_edge.specs.Told.{Told}
use Rattle.lldb_base.specs.Stops.{kept_of, same_but_self}
use Rattle.lldb_alloc.specs.Frames.{KeepsStops, kept}

-- no call
pub stops_none : {S : Type 0} {content_of : S → Option (List ℕ)} {saved_of : S → List (Option (List ℕ))} {leaves : S → Option (List ℕ) → Type 0} {moment_of : S → ℕ} {past : S → ℕ → ℕ → Option (List ℕ) → Type 0} {told_of : S → Told} (a : S) → KeepsStops content_of saved_of leaves moment_of past told_of a a
stops_none a = kept same_but_self refl

-- a call of the filer
pub stops_once : {S : Type 0} {content_of : S → Option (List ℕ)} {saved_of : S → List (Option (List ℕ))} {leaves : S → Option (List ℕ) → Type 0} {moment_of : S → ℕ} {past : S → ℕ → ℕ → Option (List ℕ) → Type 0} {told_of : S → Told} {a b : S}
    → IsSameBut (kept_of (content_of a) (saved_of a)) (kept_of (content_of b) (saved_of b)) (leaves a) (leaves b) (moment_of a) (moment_of b) (past a) (past b) (told_of a) (told_of b) → told_of b ≡ told_of a → KeepsStops content_of saved_of leaves moment_of past told_of a b
stops_once same told = kept same told

-- two in a row
same_then : {C H : Type 0} {held_a held_b held_c : H} {left_a left_b left_c : C → Type 0} {when_a when_b when_c : ℕ} {past_a past_b past_c : ℕ → ℕ → C → Type 0} {told_a told_b told_c : Told} → told_b ≡ told_a → told_c ≡ told_b
    → IsSameBut held_a held_b left_a left_b when_a when_b past_a past_b told_a told_b → IsSameBut held_b held_c left_b left_c when_b when_c past_b past_c told_b told_c → IsSameBut held_a held_c left_a left_c when_a when_c past_a past_c told_a told_c
same_then {told_a = ta} {told_b = tb} {told_c = tc} one two f s = record {
  held = s.held ∙ f.held;
  stops = λ c left. f.stops c (s.stops c left);
  stops_back = λ c left. s.stops_back c (f.stops_back c left);
  moments = record {
    later = omega (arith, f.moments.later, s.moments.later);
    keeps = λ t n c past. s.moments.keeps t n c (f.moments.keeps t n c past);
    adds = λ t n c early since. elim (s.moments.adds t n c (omega (arith, early, f.moments.later)) since) [
      | inr new ↦ inr (new.0, subst (λ (t : Told). IsBetween t tc n) one new.1)
      | inl old ↦ elim (f.moments.adds t n c early old) [
        | inl older ↦ inl older
        | inr new ↦ inr (s.stops_back c new.0, subst (λ (t : Told). IsBetween ta t n) (sym two) new.1)
      ]
    ];
  };
}

pub stops_then : {S : Type 0} {content_of : S → Option (List ℕ)} {saved_of : S → List (Option (List ℕ))} {leaves : S → Option (List ℕ) → Type 0} {moment_of : S → ℕ} {past : S → ℕ → ℕ → Option (List ℕ) → Type 0} {told_of : S → Told} {a b c : S} → KeepsStops content_of saved_of leaves moment_of past told_of a b → KeepsStops content_of saved_of leaves moment_of past told_of b c → KeepsStops content_of saved_of leaves moment_of past told_of a c
stops_then (kept f one) (kept s two) = kept (same_then one two f s) (two ∙ one)
