-- What is wrong with an item, by how far it was read.
use Rattle.std.proofs.Common.{◌≡◌, ◌⊎◌, ℕ, ◌+◌, ◌<◌, ◌≤◌, List, [], ◌++◌, length, drop, get_or, Option, Some, None, Ok, refl, ap, subst, inl, inr}
use Rattle.std.proofs.lemmas.List.{append-nil, drop_all}
use Rattle.serde_json.specs.Data.{Data}
use Rattle.serde_json.specs.View.{items_view, view}
use Rattle.serde_json.specs.declared.value.Value.{Value}
use Rattle.npm_range.specs.Conditions.{Condition}
use Rattle.npm_range.specs.Grammar.{IsFirstBad, Reads, Spells}
use Rattle.std.specs.Prelude.{codes}
use Rattle.advisory_reader.specs.Advisories.{EndsList, IsWrong, NextAdvisory, ReadsList, functions_in, named_of, some_text_in, text_in}
use Rattle.advisory_reader.specs.declared.advisory.Advisory.{Advisory}
use Rattle.advisory_reader.specs.declared.fault.AdvisoryFault.{AdvisoryFault}
use Rattle.advisory_reader.specs.declared.fault.AdvisoryFault.TheVariants as fault
use Rattle.advisory_reader.specs.declared.fault.Field.TheVariants as field
use Rattle.advisory_reader.proofs.Lists.{items-read}

pub named_of-known : (d : Data) (id name range : List ℕ) → Some id ≡ some_text_in (codes "id") d → Some name ≡ some_text_in (codes "package") d
    → Some range ≡ text_in (codes "range") d → named_of d ≡ Ok (id, name, range)
unfolding named_of
named_of-known d id name range i n r = rw (← i, ← n, ← r) refl

pub IsWrong-range : (index : ℕ) (d : Data) (named : List ℕ × List ℕ × List ℕ) (f : AdvisoryFault) → named_of d ≡ Ok named
    → (f ≡ fault.OutOfMemory) ⊎ ((at : ℕ) × (f ≡ fault.Range index at) × IsFirstBad named.2 at) → (f ≡ fault.OutOfMemory) ⊎ IsWrong index d f
IsWrong-range index d named f n (inl memory) = inl memory
IsWrong-range index d named f n (inr bad) = inr (inr (inl (bad.0, (named, n, bad.2), bad.1)))

pub IsWrong-functions : (index : ℕ) (d : Data) (named : List ℕ × List ℕ × List ℕ) (range : List (List Condition)) (f : AdvisoryFault) → named_of d ≡ Ok named
    → Spells named.2 range → functions_in d ≡ None → f ≡ fault.Field index field.Functions → IsWrong index d f
IsWrong-functions index d named range f n s e g = inr (inr ((named, range, n, s, e), g))

-- a reading of the values from i on, put behind the advisories before it
abbrev pub Continues : List Value → ℕ → List Advisory → Type 0
Continues vs i done = (rest : List Advisory) (end : Option AdvisoryFault) → Reads NextAdvisory EndsList (i, items_view (drop i vs)) rest end
    → ReadsList (items_view vs) (done ++ rest) end

pub wrong_item : (vs : List Value) (i index : ℕ) (v : Value) (done : List Advisory) (f : AdvisoryFault) → index ≡ i → i < length vs → v ≡ get_or vs i v
    → Continues vs i done → (f ≡ fault.OutOfMemory) ⊎ IsWrong index (view v) f
    → (f ≡ fault.OutOfMemory) ⊎ ((before : List Advisory) × ReadsList (items_view vs) before (Some f))
wrong_item vs i index v done f at l same go (inl memory) = inl memory
wrong_item vs i index v done f at l same go (inr wrong) =
    inr (done ++ [], go [] (Some f) (view v, items_view (drop (i + 1) vs), items-read vs i v l same, subst (λ n. IsWrong n (view v) f) at wrong))

pub all_items : (vs : List Value) (i : ℕ) (done : List Advisory) → length vs ≤ i → Continues vs i done → ReadsList (items_view vs) done None
all_items vs i done l go = rw append-nil at (go [] None (ap items_view (drop_all i vs l)))
