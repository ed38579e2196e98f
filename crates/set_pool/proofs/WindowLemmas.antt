-- Windows before and after a slot is written, and a window is given.
use Rattle.std.proofs.Common.{◌≡◌, ◌≢◌, ℕ, zero, suc, ◌+◌, ◌-◌, ◌<◌, ◌≤◌, ◌⊎◌, inl, inr, true, List, [], ◌∷◌, ◌++◌, length, get_or, set, map, take, drop, replicate, refl, sym, ◌∙◌, ap, arith, get_or-set_same, get_or-set_other, length-append, length-drop, length-take, length-set}
use Rattle.std.proofs.lemmas.Bool.{cases_eq}
use Rattle.std.proofs.Math.Seq.{drop-append_seam, take-set-lt}
use Rattle.std.proofs.lemmas.List.{drop-append-le, drop-set-add, drop-set-lt, get_or-map, length-replicate, set-get_or, take_all, take-append-le, take-set-le}
use Rattle.set_pool.specs.Sets.{is_in, set_at}
use Rattle.set_pool.specs.Tables.{IsProbed, IsSpot, none, taken}
use Rattle.set_pool.specs.Windows.{AreApart, Puts, Tables, table_in, window}
use Rattle.set_pool.proofs.Members.{one_changed}
use Rattle.set_pool.proofs.TableLemmas.{takes_again, takes_both, takes_here, takes_none, takes_swapped}
use Rattle.set_pool.specs.declared.index.Window.{Window}

-- a slot of one window is written
pub written : (slots : List ℕ) (windows : List Window) (s p t n : ℕ) → AreApart windows n → s < length windows → p < (window windows s).length
    → map (table_in (set slots ((window windows s).start + p) t)) windows ≡ set (map (table_in slots) windows) s (set (table_in slots (window windows s)) p t)
written slots windows s p t n are lt less =
    one_changed (table_in (set slots (start + p) t)) (table_in slots) windows windows s (set (table_in slots (window windows s)) p t) (record { start = 0; length = 0 }) lt refl here there
  where
    start : ℕ
    start = (window windows s).start

    here : table_in (set slots (start + p) t) (window windows s) ≡ set (table_in slots (window windows s)) p t
    here = ap (take (window windows s).length) (drop-set-add start slots p t) ∙ take-set-lt (window windows s).length (drop start slots) p t less

    there : (r : ℕ) → r < length windows → r ≢ s → table_in (set slots (start + p) t) (window windows r) ≡ table_in slots (window windows r)
    there r below ne = elim (are.apart s r lt below (λ e. ne (sym e))) [
      | inl before ↦ ap (take (window windows r).length) (drop-set-lt (window windows r).start slots (start + p) t (omega (arith, before, less)))
      | inr behind ↦
          let e : start + p ≡ (window windows r).start + (start + p - (window windows r).start) = omega (arith, behind) in
          ap (λ i. take (window windows r).length (drop (window windows r).start (set slots i t))) e
          ∙ ap (take (window windows r).length) (drop-set-add (window windows r).start slots (start + p - (window windows r).start) t)
          ∙ take-set-le (window windows r).length (drop (window windows r).start slots) (start + p - (window windows r).start) t (omega (arith, behind))
    ]

pub table_of : (slots : List ℕ) (windows : List Window) (s : ℕ) → s < length windows → set_at (map (table_in slots) windows) s ≡ table_in slots (window windows s)
table_of slots windows s lt = get_or-map (table_in slots) windows s (record { start = 0; length = 0 }) [] lt

-- a value is written where the walk found a free slot
pub puts_here : (slots : List ℕ) (windows : List Window) (s p t n used capacity : ℕ) (w : Window) → AreApart windows n → s < length windows → w ≡ window windows s → t < none
    → IsSpot (set_at (map (table_in slots) windows) s) t p
    → Puts s (t ∷ []) (record { tables = map (table_in slots) windows; used = used; capacity = capacity }) (record { tables = map (table_in (set slots (w.start + p) t)) windows; used = used; capacity = capacity })
puts_here slots windows s p t n used capacity w are lt is below spot =
    let here : set_at (map (table_in slots) windows) s ≡ table_in slots (window windows s) = table_of slots windows s lt in
    let there : IsSpot (table_in slots (window windows s)) t p = rw (← here) spot in
    let less : p < (window windows s).length = let e = length-take (window windows s).length (drop (window windows s).start slots) in let f = there.within in omega (arith, e, f) in
    record {
      table = set (table_in slots (window windows s)) p t;
      tables = ap (λ (v : Window). map (table_in (set slots (v.start + p) t)) windows) is ∙ written slots windows s p t n are lt less;
      takes = rw here (takes_here (table_in slots (window windows s)) t p below there);
      same_used = refl;
      same_capacity = refl;
    }

-- nothing is written where the value is there before
pub puts_again : (s t : ℕ) (tables : Tables) → s < length tables.tables → is_in t (set_at tables.tables s) ≡ true → Puts s (t ∷ []) tables tables
puts_again s t tables lt there = record {
  table = set_at tables.tables s;
  tables = sym (set-get_or tables.tables s []);
  takes = takes_again (set_at tables.tables s) t there;
  same_used = refl;
  same_capacity = refl;
}

-- a window behind all slots is given to one set
pub renewed : (slots new : List ℕ) (windows : List Window) (s start size : ℕ) → AreApart windows start → start ≡ length slots → new ≡ slots ++ replicate size none → s < length windows
    → map (table_in new) (set windows s (record { start = start; length = size })) ≡ set (map (table_in slots) windows) s (replicate size none)
renewed slots new windows s start size are is now lt =
    one_changed (table_in new) (table_in slots) (set windows s given) windows s more (record { start = 0; length = 0 }) lt (length-set windows s given) here there
  where
    given : Window
    given = record { start = start; length = size }

    more : List ℕ
    more = replicate size none

    size_is : length (replicate size none) ≡ size
    size_is = length-replicate size none

    at_end : take size (drop start new) ≡ replicate size none
    at_end =
        (λ i. take size (drop (is i) (now i)))
        ∙ ap (take size) (drop-append_seam slots (replicate size none))
        ∙ take_all size (replicate size none) (omega (arith, size_is))

    here : table_in new (window (set windows s (record { start = start; length = size })) s) ≡ replicate size none
    here = ap (table_in new) (get_or-set_same windows s (record { start = start; length = size }) (record { start = 0; length = 0 }) lt) ∙ at_end

    there : (r : ℕ) → r < length windows → r ≢ s → table_in new (window (set windows s (record { start = start; length = size })) r) ≡ table_in slots (window windows r)
    there r below ne =
        let within = are.within r below in
        ap (table_in new) (get_or-set_other windows s r (record { start = start; length = size }) (record { start = 0; length = 0 }) ne)
        ∙ ap (λ xs. table_in xs (window windows r)) now
        ∙ ap (take (window windows r).length) (drop-append-le (window windows r).start slots (replicate size none) (omega (arith, within, is)))
        ∙ take-append-le (window windows r).length (drop (window windows r).start slots) (replicate size none) (let e = length-drop (window windows r).start slots in omega (arith, within, e, is))

-- what `resize` makes longer
pub resized : (slots new : List ℕ) (n m size : ℕ) → n ≡ length slots → m ≡ n → new ≡ take (n + size) slots ++ replicate (n + size - m) none → new ≡ slots ++ replicate size none
resized slots new n m size is same now =
    let e : n + size - m ≡ size = omega (arith, same) in
    now ∙ (λ i. take_all (n + size) slots (omega (arith, is)) i ++ replicate (e i) none)

-- values that come one after another
pub puts_length : (s : ℕ) (xs : List ℕ) (a b : Tables) → Puts s xs a b → length b.tables ≡ length a.tables
puts_length s xs a b p = ap length p.tables ∙ length-set a.tables s p.table

pub table_now : (s : ℕ) (xs : List ℕ) (a b : Tables) → s < length a.tables → (p : Puts s xs a b) → set_at b.tables s ≡ p.table
table_now s xs a b lt p = ap (λ ts. set_at ts s) p.tables ∙ get_or-set_same a.tables s p.table [] lt

pub puts_none : (s : ℕ) (a : Tables) → Puts s [] a a
puts_none s a = record {
  table = set_at a.tables s;
  tables = sym (set-get_or a.tables s []);
  takes = takes_none (set_at a.tables s);
  same_used = refl;
  same_capacity = refl;
}

pub set_twice : {X : Type 0} (xs : List X) (s : ℕ) (x y : X) → set (set xs s x) s y ≡ set xs s y
set_twice [] s x y = refl
set_twice (z ∷ xs) zero x y = refl
set_twice (z ∷ xs) (suc s) x y = ap (λ ys. z ∷ ys) (set_twice xs s x y)

pub puts_both : (s : ℕ) (xs ys : List ℕ) (a b c : Tables) → s < length a.tables → Puts s xs a b → Puts s ys b c → Puts s (xs ++ ys) a c
puts_both s xs ys a b c lt p q = record {
  table = q.table;
  tables = q.tables ∙ ap (λ ts. set ts s q.table) p.tables ∙ set_twice a.tables s p.table q.table;
  takes = takes_both xs ys (set_at a.tables s) p.table q.table p.takes (rw (← table_now s xs a b lt p) q.takes);
  same_used = q.same_used ∙ p.same_used;
  same_capacity = q.same_capacity ∙ p.same_capacity;
}

pub puts_swapped : (s : ℕ) (xs ys : List ℕ) (a b : Tables) → Puts s (xs ++ ys) a b → Puts s (ys ++ xs) a b
puts_swapped s xs ys a b p = record {
  table = p.table;
  tables = p.tables;
  takes = takes_swapped xs ys (set_at a.tables s) p.table p.takes;
  same_used = p.same_used;
  same_capacity = p.same_capacity;
}

pub puts_room : (s : ℕ) (xs : List ℕ) (n : ℕ) (a b : Tables) → s < length a.tables → Puts s xs a b → taken (set_at a.tables s) + length xs + n < length (set_at a.tables s) → taken (set_at b.tables s) + n < length (set_at b.tables s)
puts_room s xs n a b lt p room =
    let e = p.takes.same_length in
    let f = p.takes.few in
    rw (table_now s xs a b lt p) (omega (arith, room, e, f))

pub puts_probed : (s : ℕ) (xs : List ℕ) (a b : Tables) → s < length a.tables → Puts s xs a b → IsProbed (set_at a.tables s) → IsProbed (set_at b.tables s)
puts_probed s xs a b lt p probed = rw (table_now s xs a b lt p) (p.takes.probed probed)

-- windows with no slot
pub none_share : (n m : ℕ) → AreApart (replicate n (record { start = 0; length = 0 })) m
none_share n m = record { within = λ s lt. rw (empty s) (omega arith); apart = λ s r lt below ne. rw (empty s, empty r) (inl (omega arith)) }
  where
    empty_among : (k s : ℕ) → window (replicate k (record { start = 0; length = 0 })) s ≡ record { start = 0; length = 0 }
    empty_among zero s = refl
    empty_among (suc k) zero = refl
    empty_among (suc k) (suc s) = empty_among k s

    empty : (s : ℕ) → window (replicate n (record { start = 0; length = 0 })) s ≡ record { start = 0; length = 0 }
    empty s = empty_among n s

pub no_tables : (n : ℕ) (slots : List ℕ) → map (table_in slots) (replicate n (record { start = 0; length = 0 })) ≡ replicate n []
no_tables zero slots = refl
no_tables (suc n) slots = ap (λ xs. [] ∷ xs) (no_tables n slots)

take_nothing : {X : Type 0} (k : ℕ) → ◌≡◌ {A = List X} (take k []) []
take_nothing zero = refl
take_nothing (suc k) = refl

pub from_nothing : {X : Type 0} (xs : List X) (n m : ℕ) (x : X) → xs ≡ [] → m ≡ 0 → take n xs ++ replicate (n - m) x ≡ replicate n x
from_nothing xs n m x is none_yet =
    let e : n - m ≡ n = omega (arith, none_yet) in
    (λ i. take n (is i) ++ replicate (e i) x) ∙ ap (λ ys. ys ++ replicate n x) (take_nothing n)
