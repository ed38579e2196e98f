-- The list of advisories that bytes spell, in this project's own format.
use Rattle.std.specs.Prelude.{◌≡◌, ◌⊎◌, ℕ, ◌+◌, List, [], ◌∷◌, Option, Some, None, Result, Ok, Err, codes}
use Rattle.std.specs.Option.{option_and_then}
use Rattle.serde_json.specs.Data.{Data, Items, no_items, item}
use Rattle.serde_json.specs.Find.{as_array, as_str, get}
use Rattle.json_value.specs.Bytes.{json_of}
use Rattle.npm_range.specs.Conditions.{Condition}
use Rattle.npm_range.specs.Grammar.{IsFirstBad, Reads, Spells}
use Rattle.advisory_reader.specs.declared.advisory.Advisory.{Advisory}
use Rattle.advisory_reader.specs.declared.advisory.Selector.{Selector}
use Rattle.advisory_reader.specs.declared.fault.AdvisoryFault.{AdvisoryFault}
use Rattle.advisory_reader.specs.declared.fault.AdvisoryFault.TheVariants as fault
use Rattle.advisory_reader.specs.declared.fault.Field.{Field}
use Rattle.advisory_reader.specs.declared.fault.Field.TheVariants as field

-- ---- the fields of an item; what is no object has none

-- the text of a member
abbrev pub text_in : List ℕ → Data → Option (List ℕ)
text_in name d = option_and_then as_str (get name d)

-- a text that is not empty
abbrev pub not_empty : List ℕ → Option (List ℕ)
not_empty [] = None
not_empty (b ∷ text) = Some (b ∷ text)

-- the text of a member, which must not be empty
abbrev pub some_text_in : List ℕ → Data → Option (List ℕ)
some_text_in name d = option_and_then not_empty (text_in name d)

abbrev pub selector_with : Option (List ℕ) → Option (List ℕ) → Option Selector
selector_with (Some file) (Some name) = Some (record { file = file; name = name })
selector_with (Some file) None = None
selector_with None name = None

-- the selector that a value describes: an object with the texts `file` and `name`
unfoldable pub selector_of : Data → Option Selector
selector_of d = selector_with (text_in (codes "file") d) (text_in (codes "name") d)

abbrev pub with_selector : Option Selector → Option (List Selector) → Option (List Selector)
with_selector (Some s) (Some more) = Some (s ∷ more)
with_selector (Some s) None = None
with_selector None more = None

-- the selectors that all the items of an array describe
unfoldable pub selectors_of : Items → Option (List Selector)
selectors_of no_items = Some []
selectors_of (item d ds) = with_selector (selector_of d) (selectors_of ds)

-- the selectors of the member `functions`
abbrev pub functions_in : Data → Option (List Selector)
functions_in d = option_and_then selectors_of (option_and_then as_array (get (codes "functions") d))

-- ---- items

abbrev pub named_with : Option (List ℕ) → Option (List ℕ) → Option (List ℕ) → Result (List ℕ × List ℕ × List ℕ) Field
named_with None name range = Err field.Id
named_with (Some id) None range = Err field.Package
named_with (Some id) (Some name) None = Err field.Range
named_with (Some id) (Some name) (Some range) = Ok (id, name, range)

-- the identifier, the package and the text of the range of an item, or the first of these that isn't as it must be
unfoldable pub named_of : Data → Result (List ℕ × List ℕ × List ℕ) Field
named_of d = named_with (some_text_in (codes "id") d) (some_text_in (codes "package") d) (text_in (codes "range") d)

-- the value describes the advisory
abbrev pub IsAdvisory : Data → Advisory → Type 0
IsAdvisory d a = (range : List ℕ) × (named_of d ≡ Ok (a.id, a.package, range)) × Spells range a.range × (functions_in d ≡ Some a.functions)

-- the range of the item has its first bad piece at this offset
abbrev pub HasBadRange : Data → ℕ → Type 0
HasBadRange d at = (named : List ℕ × List ℕ × List ℕ) × (named_of d ≡ Ok named) × IsFirstBad named.2 at

-- all that comes before the functions of the item is as it must be, and the functions are not
abbrev pub HasBadFunctions : Data → Type 0
HasBadFunctions d = (named : List ℕ × List ℕ × List ℕ) × (range : List (List Condition)) × (named_of d ≡ Ok named) × Spells named.2 range × (functions_in d ≡ None)

-- the first thing that is wrong with the item at an index
abbrev pub IsWrong : ℕ → Data → AdvisoryFault → Type 0
IsWrong index d f = ((wrong : Field) × (named_of d ≡ Err wrong) × (f ≡ fault.Field index wrong))
    ⊎ (((at : ℕ) × HasBadRange d at × (f ≡ fault.Range index at))
    ⊎ (HasBadFunctions d × (f ≡ fault.Field index field.Functions)))

-- ---- the list

-- the next item of the list is an advisory; a place is the index and the items from it on
abbrev pub NextAdvisory : ℕ × Items → Advisory → ℕ × Items → Type 0
NextAdvisory place a left = (d : Data) × (place.1 ≡ item d left.1) × (left.0 ≡ place.0 + 1) × IsAdvisory d a

-- the list ends where no item is left, or with the fault of an item in which something is wrong
abbrev pub EndsList : ℕ × Items → Option AdvisoryFault → Type 0
EndsList place None = place.1 ≡ no_items
EndsList place (Some f) = (d : Data) × (left : Items) × (place.1 ≡ item d left) × IsWrong place.0 d f

-- the items are these advisories, or they begin with these and then comes the fault
abbrev pub ReadsList : Items → List Advisory → Option AdvisoryFault → Type 0
ReadsList ds advisories end = Reads NextAdvisory EndsList (0, ds) advisories end

-- the items of the array `advisories`
unfoldable pub items_in : Data → Option Items
items_in d = option_and_then as_array (get (codes "advisories") d)

abbrev pub items_or_shape : Option Items → Result Items AdvisoryFault
items_or_shape None = Err fault.Shape
items_or_shape (Some ds) = Ok ds

abbrev pub items_in_json : Option Data → Result Items AdvisoryFault
items_in_json None = Err fault.NotJson
items_in_json (Some d) = items_or_shape (items_in d)

-- the items that bytes have, where they are a JSON text with an array `advisories`
abbrev pub items_of : List ℕ → Result Items AdvisoryFault
items_of bytes = items_in_json (json_of bytes)

-- the bytes spell the advisories
abbrev pub SpellsAdvisories : List ℕ → List Advisory → Type 0
SpellsAdvisories bytes advisories = (ds : Items) × (items_of bytes ≡ Ok ds) × ReadsList ds advisories None

-- the first thing that is wrong with the bytes
abbrev pub IsFault : List ℕ → AdvisoryFault → Type 0
IsFault bytes f = (items_of bytes ≡ Err f)
    ⊎ ((ds : Items) × (before : List Advisory) × (items_of bytes ≡ Ok ds) × ReadsList ds before (Some f))
