-- Values of groups of kinds.
use Rattle.std.proofs.Common.{◌≡◌, Bool, true, false, sym, subst}
use Rattle.ql_value.specs.declared.value.Kind.{Kind}
use Rattle.ql_value.specs.declared.value.Kind.TheVariants as k
use Rattle.ql_value.specs.declared.value.Value.{Value}
use Rattle.ql_value.specs.declared.value.Value.TheVariants as v
use Rattle.ql_value.specs.Number.{HasKind}
use Rattle.ql_value.specs.Kinds.{is_integer, is_truth, is_text, is_byte_list}
use Rattle.ql_syntax.specs.declared.typing.Typing.{Typing}
use Rattle.ql_syntax.specs.declared.typing.Typing.TheVariants.{OnlyNull, OfKind, Ill}
use Rattle.ql_syntax.specs.Typing.{HasType}
use Rattle.ql_eval.proofs.TypeLemmas.{Passes}

-- NULL or a number
abbrev pub IsNumber : Value → Type 0
IsNumber v.Null = Unit {0}
IsNumber (v.Int _ _) = Unit {0}
IsNumber _ = ⊥

-- NULL or a truth
abbrev pub IsTruth : Value → Type 0
IsTruth v.Null = Unit {0}
IsTruth (v.Bool _) = Unit {0}
IsTruth _ = ⊥

-- NULL or a string
abbrev pub IsText : Value → Type 0
IsText v.Null = Unit {0}
IsText (v.Text _) = Unit {0}
IsText _ = ⊥

-- NULL, a string or a blob
abbrev pub IsBytes : Value → Type 0
IsBytes v.Null = Unit {0}
IsBytes (v.Text _) = Unit {0}
IsBytes (v.Blob _) = Unit {0}
IsBytes _ = ⊥

number_kind : (kind : Kind) (x : Value) → is_integer kind ≡ true → HasKind kind x → IsNumber x
number_kind k.Bool x e h = absurd (cc)
number_kind k.Text x e h = absurd (cc)
number_kind k.Blob x e h = absurd (cc)
number_kind _ v.Null e h = tt
number_kind _ (v.Int _ _) e h = tt
number_kind _ (v.Bool _) e h = absurd h
number_kind _ (v.Text _) e h = absurd h
number_kind _ (v.Blob _) e h = absurd h

truth_kind : (kind : Kind) (x : Value) → is_truth kind ≡ true → HasKind kind x → IsTruth x
truth_kind k.Bool v.Null e h = tt
truth_kind k.Bool (v.Bool _) e h = tt
truth_kind k.Bool (v.Int _ _) e h = let f : false ≡ true = h.1 in absurd (cc)
truth_kind k.Bool (v.Text _) e h = absurd h
truth_kind k.Bool (v.Blob _) e h = absurd h
truth_kind _ x e h = absurd (cc)

text_kind : (kind : Kind) (x : Value) → is_text kind ≡ true → HasKind kind x → IsText x
text_kind k.Text v.Null e h = tt
text_kind k.Text (v.Text _) e h = tt
text_kind k.Text (v.Int _ _) e h = let f : false ≡ true = h.1 in absurd (cc)
text_kind k.Text (v.Bool _) e h = absurd h
text_kind k.Text (v.Blob _) e h = absurd h
text_kind _ x e h = absurd (cc)

bytes_kind : (kind : Kind) (x : Value) → is_byte_list kind ≡ true → HasKind kind x → IsBytes x
bytes_kind k.Text v.Null e h = tt
bytes_kind k.Text (v.Text _) e h = tt
bytes_kind k.Text (v.Int _ _) e h = let f : false ≡ true = h.1 in absurd (cc)
bytes_kind k.Text (v.Bool _) e h = absurd h
bytes_kind k.Text (v.Blob _) e h = absurd h
bytes_kind k.Blob v.Null e h = tt
bytes_kind k.Blob (v.Blob _) e h = tt
bytes_kind k.Blob (v.Int _ _) e h = let f : false ≡ true = h.1 in absurd (cc)
bytes_kind k.Blob (v.Bool _) e h = absurd h
bytes_kind k.Blob (v.Text _) e h = absurd h
bytes_kind _ x e h = absurd (cc)

-- a value of a type whose kind passes the test, where each value of such a kind has a property that NULL has
of_group : (test : Kind → Bool) (P : Value → Type 0) → P v.Null → ((kind : Kind) (x : Value) → test kind ≡ true → HasKind kind x → P x) → (t : Typing) (x : Value) → Passes test t → HasType t x → P x
of_group test P n f OnlyNull x p h = subst P (sym h) n
of_group test P n f (OfKind kind) x p h = f kind x p h
of_group test P n f Ill x p h = absurd h

pub number_value : (t : Typing) (x : Value) → Passes is_integer t → HasType t x → IsNumber x
number_value = of_group is_integer IsNumber tt number_kind

pub truth_value : (t : Typing) (x : Value) → Passes is_truth t → HasType t x → IsTruth x
truth_value = of_group is_truth IsTruth tt truth_kind

pub text_value : (t : Typing) (x : Value) → Passes is_text t → HasType t x → IsText x
text_value = of_group is_text IsText tt text_kind

pub bytes_value : (t : Typing) (x : Value) → Passes is_byte_list t → HasType t x → IsBytes x
bytes_value = of_group is_byte_list IsBytes tt bytes_kind
