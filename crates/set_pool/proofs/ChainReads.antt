-- What is read of lists in chunks.
use Rattle.std.proofs.Common.{◌≡◌, ◌≢◌, ℕ, zero, suc, ◌+◌, ◌-◌, ◌*◌, ◌/◌, ◌%◌, ◌<◌, ◌≤◌, ◌⊎◌, inl, inr, Bool, true, false, ◌||◌, List, [], ◌∷◌, ◌++◌, length, get_or, map, take, refl, sym, ◌∙◌, ap, subst, arith, append_assoc, length-append}
use Rattle.std.specs.Prelude.{nat_eq}
use Rattle.std.proofs.lemmas.Bool.{cases_lt, eq-eqb, eqb-true, ne_eqb}
use Rattle.std.proofs.lemmas.List.{get_or-take, get_or_past, length-map, take_all}
use Rattle.std.proofs.lemmas.List.Sums.{get_or-le-sum_by}
use Rattle.std.proofs.Math.Bool.{or-true}
use Rattle.std.proofs.Math.ListN.{get_or-append}
use Rattle.std.proofs.Math.Seq.{get_or-append_right}
use Rattle.set_pool.specs.Sets.{is_in, set_at}
use Rattle.set_pool.specs.Chains.{AreChained, AreOwned, IsChain, chunk, empty, end_at, list_in, values_of}
use Rattle.set_pool.specs.declared.lists.Chunk.{Chunk}
use Rattle.set_pool.specs.declared.lists.End.{End}
use Rattle.set_pool.proofs.ChainLemmas.{chain_length, length_of, list_of, top_of}
use Rattle.set_pool.proofs.Members.{apart, is_in_both, told}

-- the chain of any number: past the lists it is empty
pub chain_at : (chunks : List Chunk) (ends : List End) (spare capacity : ℕ) (are : AreChained chunks ends spare capacity) (s : ℕ) → IsChain are.owner chunks s (end_at ends s)
chain_at chunks ends spare capacity are s = elim (cases_lt s (length ends)) [
  | inl lt ↦ are.chains s lt
  | inr past ↦ rw (get_or_past ends s empty past) (record { some = omega arith; few = omega arith; full = λ is. refl; owned = tt })
]

pub list_at : (chunks : List Chunk) (ends : List End) (s : ℕ) → set_at (map (list_in chunks) ends) s ≡ list_in chunks (end_at ends s)
list_at chunks ends s = elim (cases_lt s (length ends)) [
  | inl lt ↦ list_of chunks ends s lt
  | inr past ↦
      let e = length-map ends (list_in chunks) in
      get_or_past (map (list_in chunks) ends) s [] (omega (arith, past, e)) ∙ ap (list_in chunks) (sym (get_or_past ends s empty past))
]

pub length_at : (chunks : List Chunk) (ends : List End) (spare capacity s : ℕ) (e : End) → AreChained chunks ends spare capacity → e ≡ end_at ends s
    → length (set_at (map (list_in chunks) ends) s) + 15 ≡ 15 * e.count + e.filled
length_at chunks ends spare capacity s e are is =
    ap (λ xs. length xs + 15) (list_at chunks ends s)
    ∙ chain_length are.owner chunks s (end_at ends s) (chain_at chunks ends spare capacity are s)
    ∙ ap (λ (f : End). 15 * f.count + f.filled) (sym is)

-- whether the last chunk is full
pub full_at : (chunks : List Chunk) (ends : List End) (spare capacity s : ℕ) (e : End) → AreChained chunks ends spare capacity → e ≡ end_at ends s
    → nat_eq e.filled 15 ≡ nat_eq (length (set_at (map (list_in chunks) ends) s) % 15) 0
full_at chunks ends spare capacity s e are is =
    let long = length_at chunks ends spare capacity s e are is in
    let chain : IsChain are.owner chunks s e = rw is (chain_at chunks ends spare capacity are s) in
    let some = chain.some in
    let few = chain.few in
    elim (told (nat_eq e.filled 15)) [
      | inl full ↦ let f : e.filled ≡ 15 = eqb-true e.filled 15 full in full ∙ sym (eq-eqb (length (set_at (map (list_in chunks) ends) s) % 15) 0 (omega (arith, long, f)))
      | inr other ↦ other ∙ sym (ne_eqb (length (set_at (map (list_in chunks) ends) s) % 15) 0 (λ z. let f : e.filled ≡ 15 = omega (arith, long, some, few, z) in let g = eq-eqb e.filled 15 f in absurd (apart g other)))
    ]

-- a list that has one chunk at most
pub one_chunk : (chunks : List Chunk) (s n c j : ℕ) → 0 < j → length (values_of chunks n c j) + 15 ≡ 15 * n + j → length (values_of chunks n c j) ≤ 15 → 0 < n → values_of chunks n c j ≡ take j (chunk chunks c).values
one_chunk chunks s zero c j some long short more = absurd (omega (arith, more))
one_chunk chunks s (suc zero) c j some long short more = refl
one_chunk chunks s (suc (suc n)) c j some long short more = absurd (omega (arith, some, long, short))

-- a value before the last chunk, and one in it
pub earlier_value : (owner : ℕ → ℕ) (chunks : List Chunk) (s n c j k bound : ℕ) → AreOwned owner chunks s (suc n) c bound → k < 15 * n
    → get_or (values_of chunks (suc n) c j) k 0 ≡ get_or (values_of chunks n (chunk chunks c).before 15) k 0
earlier_value owner chunks s n c j k bound owned lt =
    let e = length_of owner chunks s n (chunk chunks c).before 15 c (omega arith) (λ _. refl) owned.3 in
    get_or-append (values_of chunks n (chunk chunks c).before 15) (take j (chunk chunks c).values) 0 k (omega (arith, e, lt))

pub last_value : (owner : ℕ → ℕ) (chunks : List Chunk) (s n c j k i bound : ℕ) → AreOwned owner chunks s (suc n) c bound → k ≡ 15 * n + i → i < j
    → get_or (values_of chunks (suc n) c j) k 0 ≡ get_or (chunk chunks c).values i 0
last_value owner chunks s n c j k i bound owned is lt =
    let e = length_of owner chunks s n (chunk chunks c).before 15 c (omega arith) (λ _. refl) owned.3 in
    let f : k - length (values_of chunks n (chunk chunks c).before 15) ≡ i = omega (arith, e, is) in
    get_or-append_right (values_of chunks n (chunk chunks c).before 15) (take j (chunk chunks c).values) k 0 (omega (arith, e, is))
    ∙ ap (λ x. get_or (take j (chunk chunks c).values) x 0) f
    ∙ get_or-take j (chunk chunks c).values i 0 lt

-- one chunk of a list after another, from the last to the first
module _ (owner : ℕ → ℕ) (chunks : List Chunk) (s m n c bound : ℕ) (done row : List ℕ) (m_is : m ≡ suc n) (left : values_of chunks m c 15 ++ done ≡ row) (owned : AreOwned owner chunks s m c bound) where
  owned_suc : AreOwned owner chunks s (suc n) c bound
  owned_suc = subst (λ k. AreOwned owner chunks s k c bound) m_is owned

  pub whole_chunk : take 15 (chunk chunks c).values ≡ (chunk chunks c).values
  whole_chunk = take_all 15 (chunk chunks c).values (let e = owned_suc.2 in omega (arith, e))

  pub left_on : values_of chunks n (chunk chunks c).before 15 ++ ((chunk chunks c).values ++ done) ≡ row
  left_on =
      sym (append_assoc (values_of chunks n (chunk chunks c).before 15) (chunk chunks c).values done)
      ∙ ap (λ xs. values_of chunks n (chunk chunks c).before 15 ++ xs ++ done) (sym whole_chunk)
      ∙ ap (λ k. values_of chunks k c 15 ++ done) (sym m_is)
      ∙ left

  pub owned_on : AreOwned owner chunks s n (chunk chunks c).before bound
  owned_on = wider_bound n (chunk chunks c).before owned_suc.3
    where
      wider_bound : (k d : ℕ) → AreOwned owner chunks s k d c → AreOwned owner chunks s k d bound
      wider_bound zero d own = tt
      wider_bound (suc k) d own = (let e = owned_suc.0 in let f = own.0 in omega (arith, e, f), own.1, own.2, own.3)

  pub below_bound : c < bound
  below_bound = owned_suc.0

  pub chunk_long : length (chunk chunks c).values ≡ 15
  chunk_long = owned_suc.2

  pub done_few : length done + 15 ≤ length row
  done_few =
      let e = ap length left_on in
      let f = length-append (values_of chunks n (chunk chunks c).before 15) ((chunk chunks c).values ++ done) in
      let g = length-append (chunk chunks c).values done in
      let h = chunk_long in
      omega (arith, e, f, g, h)

  pub among : (t : ℕ) → is_in t (chunk chunks c).values ≡ true → is_in t row ≡ true
  among t there =
      ap (is_in t) (sym left_on)
      ∙ is_in_both t (values_of chunks n (chunk chunks c).before 15) ((chunk chunks c).values ++ done)
      ∙ ap (λ b. is_in t (values_of chunks n (chunk chunks c).before 15) || b) (is_in_both t (chunk chunks c).values done ∙ ap (λ b. b || is_in t done) there)
      ∙ or-true (is_in t (values_of chunks n (chunk chunks c).before 15))

-- the end of a list whose last chunk has room
pub record HasRoom (chunks : List Chunk) (e : End) : Type 0 where
  pub some : 0 < e.count
  pub less : e.filled < 15
  pub below : e.chunk < length chunks

pub room_at : (chunks : List Chunk) (ends : List End) (spare capacity s : ℕ) (e : End) → AreChained chunks ends spare capacity → e ≡ end_at ends s
    → length (set_at (map (list_in chunks) ends) s) % 15 ≢ 0 → HasRoom chunks e
room_at chunks ends spare capacity s e are is room =
    let long = length_at chunks ends spare capacity s e are is in
    let chain : IsChain are.owner chunks s e = rw is (chain_at chunks ends spare capacity are s) in
    let few = chain.few in
    let less : e.filled < 15 = omega (arith, long, few, room) in
    let some : 0 < e.count = elim (cases_lt 0 e.count) [ inl more ↦ more | inr none_yet ↦ absurd (let f = chain.full (omega (arith, none_yet)) in omega (arith, f, less)) ] in
    record { some = some; less = less; below = (top_of are.owner chunks s e.count e.chunk (length chunks) some chain.owned).below }

-- how many chunks a list has at most
pub count_at : (chunks : List Chunk) (ends : List End) (spare capacity s : ℕ) (e : End) → AreChained chunks ends spare capacity → s < length ends → e ≡ end_at ends s → e.count ≤ length chunks
count_at chunks ends spare capacity s e are lt is =
    let most = get_or-le-sum_by (λ (f : End). f.count) ends s empty lt in
    let total = are.total in
    let f = ap (λ (f : End). f.count) is in
    omega (arith, most, total, f)
