-- Groups of kinds, as tests.
use Rattle.std.specs.Prelude.{Bool, true, false}
use denote.Enum.Bare.{sameb}
use Rattle.ql_value.specs.contracts.value.Kind as kind
use Rattle.ql_value.specs.declared.value.Kind.{Kind}
use Rattle.ql_value.specs.declared.value.Kind.TheVariants as k

-- the kinds whose values are numbers
abbrev pub is_integer : Kind → Bool
is_integer k.Bool = false
is_integer k.Text = false
is_integer k.Blob = false
is_integer _ = true

-- the kinds whose numbers have a sign
abbrev pub is_signed : Kind → Bool
is_signed k.Int8 = true
is_signed k.Int16 = true
is_signed k.Int32 = true
is_signed k.Int64 = true
is_signed _ = false

-- the kind of truths
abbrev pub is_truth : Kind → Bool
is_truth k.Bool = true
is_truth _ = false

-- the kind of strings
abbrev pub is_text : Kind → Bool
is_text k.Text = true
is_text _ = false

-- the kinds of strings and blobs
abbrev pub is_byte_list : Kind → Bool
is_byte_list k.Text = true
is_byte_list k.Blob = true
is_byte_list _ = false

-- the two are one kind
abbrev pub same_kind : Kind → Kind → Bool
same_kind a b = sameb kind.the_type a b
