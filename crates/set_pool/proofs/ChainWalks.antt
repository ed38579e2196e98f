-- Walks along the chunks of a list, from the last to the first.
use Rattle.std.proofs.Common.{◌≡◌, ℕ, zero, suc, ◌+◌, ◌*◌, ◌/◌, ◌%◌, ◌<◌, ◌≤◌, true, List, [], ◌++◌, ◌∷◌, ◌-◌, length, get_or, map, reverse, take, drop, sym, ◌∙◌, ap, subst, arith}
use Rattle.std.proofs.lemmas.List.{append-nil, drop_more}
use Rattle.std.proofs.lemmas.Grind.{reverse_onto}
use Rattle.std.specs.List.{slice_range}
use Rattle.std.proofs.lemmas.Bool.{eq-eqb, eqb-true}
use Rattle.set_pool.specs.Sets.{is_in, set_at}
use Rattle.set_pool.specs.Chains.{AreChained, AreOwned, HasFront, IsChain, chunk, end_at, list_in, values_of}
use Rattle.set_pool.specs.Tables.{IsProbed, taken}
use Rattle.set_pool.specs.Windows.{Puts, Tables}
use Rattle.set_pool.specs.declared.lists.Chunk.{Chunk}
use Rattle.set_pool.specs.declared.lists.End.{End}
use Rattle.set_pool.proofs.ChainReads.{among, below_bound, chain_at, chunk_long, done_few, earlier_value, full_at, last_value, left_on, length_at, list_at, owned_on}
use Rattle.set_pool.proofs.WindowLemmas.{puts_both, puts_none, puts_probed, puts_room, puts_swapped}

owned_wider : (owner : ℕ → ℕ) (chunks : List Chunk) (s n c less more : ℕ) → less ≤ more → AreOwned owner chunks s n c less → AreOwned owner chunks s n c more
owned_wider owner chunks s zero c less more le owned = tt
owned_wider owner chunks s (suc n) c less more le owned = (let b = owned.0 in omega (arith, le, b), owned.1, owned.2, owned.3)

-- the first values of a list
pub front_first : (chunks : List Chunk) (ends : List End) (spare capacity s many : ℕ) (e : End) → AreChained chunks ends spare capacity → e ≡ end_at ends s → many ≤ length (set_at (map (list_in chunks) ends) s)
    → HasFront chunks s (set_at (map (list_in chunks) ends) s) e.count e.chunk many
front_first chunks ends spare capacity s many e are is le =
    let long = length_at chunks ends spare capacity s e are is in
    let chain : IsChain are.owner chunks s e = rw is (chain_at chunks ends spare capacity are s) in
    record {
      owner = are.owner;
      filled = e.filled;
      few = chain.few;
      within = omega (arith, long, le);
      same = λ k lt. ap (λ xs. get_or xs k 0) (ap (list_in chunks) is ∙ sym (list_at chunks ends s));
      owned = chain.owned;
    }

module _ (chunks : List Chunk) (s : ℕ) (row : List ℕ) (m n c many : ℕ) (is : m ≡ suc n) (w : HasFront chunks s row m c many) where
  owned_here : AreOwned w.owner chunks s (suc n) c (length chunks)
  owned_here = subst (λ k. AreOwned w.owner chunks s k c (length chunks)) is w.owned

  pub front_below : c < length chunks
  front_below = owned_here.0

  pub front_earlier : (less : ℕ) → less ≤ many → less ≤ 15 * n → HasFront chunks s row n (chunk chunks c).before less
  front_earlier less le few = record {
    owner = w.owner;
    filled = 15;
    few = omega arith;
    within = omega (arith, few);
    same = λ k lt.
        sym (earlier_value w.owner chunks s n c w.filled k (length chunks) owned_here (omega (arith, lt, few)))
        ∙ ap (λ i. get_or (values_of chunks i c w.filled) k 0) (sym is)
        ∙ w.same k (omega (arith, lt, le));
    owned = owned_wider w.owner chunks s n (chunk chunks c).before c (length chunks) (let b = owned_here.0 in omega (arith, b)) owned_here.3;
  }

  pub front_shorter : (less : ℕ) → less ≤ many → HasFront chunks s row m c less
  front_shorter less le = record {
    owner = w.owner;
    filled = w.filled;
    few = w.few;
    within = let inside = w.within in omega (arith, inside, le);
    same = λ k lt. w.same k (omega (arith, lt, le));
    owned = w.owned;
  }

  pub front_here : (k : ℕ) → k < many → n ≡ k / 15 → get_or (chunk chunks c).values (k % 15) 0 ≡ get_or row k 0
  front_here k lt at =
      let inside = w.within in
      sym (last_value w.owner chunks s n c w.filled k (k % 15) (length chunks) owned_here (omega (arith, at)) (omega (arith, at, inside, is, lt)))
      ∙ ap (λ i. get_or (values_of chunks i c w.filled) k 0) (sym is)
      ∙ w.same k lt

-- the values between two places, the last first
pub reversed_more : (row : List ℕ) (k j to : ℕ) → j ≡ suc k → k < to → to ≤ length row → reverse (slice_range row k to) ≡ reverse (slice_range row j to) ++ get_or row k 0 ∷ []
reversed_more row k j to next lt le =
    let less : to - k ≡ suc (to - j) = omega (arith, lt, next) in
    let step : k + 1 ≡ j = omega (arith, next) in
    (λ i. reverse (take (less i) (drop_more row k 0 (omega (arith, lt, le)) i)))
    ∙ reverse_onto (take (to - j) (drop (k + 1) row)) (get_or row k 0) []
    ∙ ap (λ n. reverse (take (to - j) (drop n row)) ++ get_or row k 0 ∷ []) step

pub reversed_none : (row : List ℕ) (to : ℕ) → reverse (slice_range row to to) ≡ []
reversed_none row to = let z : to - to ≡ 0 = omega arith in ap (λ n. reverse (take n (drop to row))) z

-- the values behind the first n chunks came to the list's table
pub record Putting (chunks : List Chunk) (s : ℕ) (row : List ℕ) (old now : Tables) (n c : ℕ) : Type 0 where
  pub owner : ℕ → ℕ
  pub done : List ℕ
  pub puts : Puts s done old now
  pub left : values_of chunks n c 15 ++ done ≡ row
  pub owned : AreOwned owner chunks s n c (length chunks)

pub putting_first : (chunks : List Chunk) (ends : List End) (spare capacity s : ℕ) (e : End) (old : Tables) → AreChained chunks ends spare capacity → e ≡ end_at ends s → length (set_at (map (list_in chunks) ends) s) % 15 ≡ 0
    → Putting chunks s (set_at (map (list_in chunks) ends) s) old old e.count e.chunk
putting_first chunks ends spare capacity s e old are is full =
    let filled : e.filled ≡ 15 = eqb-true e.filled 15 (full_at chunks ends spare capacity s e are is ∙ eq-eqb (length (set_at (map (list_in chunks) ends) s) % 15) 0 full) in
    let chain : IsChain are.owner chunks s e = rw is (chain_at chunks ends spare capacity are s) in
    record {
      owner = are.owner;
      done = [];
      puts = puts_none s old;
      left = append-nil (values_of chunks e.count e.chunk 15) ∙ ap (values_of chunks e.count e.chunk) (sym filled) ∙ ap (list_in chunks) is ∙ sym (list_at chunks ends s);
      owned = chain.owned;
    }

module _ (chunks : List Chunk) (s m n c : ℕ) (row : List ℕ) (old now : Tables) (is : m ≡ suc n) (p : Putting chunks s row old now m c) where
  pub putting_below : c < length chunks
  putting_below = below_bound p.owner chunks s m n c (length chunks) p.done row is p.left p.owned

  pub putting_among : (t : ℕ) → is_in t (chunk chunks c).values ≡ true → is_in t row ≡ true
  putting_among = among p.owner chunks s m n c (length chunks) p.done row is p.left p.owned

  pub putting_probed : s < length old.tables → IsProbed (set_at old.tables s) → IsProbed (set_at now.tables s)
  putting_probed lt = puts_probed s p.done old now lt p.puts

  pub putting_room : s < length old.tables → taken (set_at old.tables s) + length row < length (set_at old.tables s) → taken (set_at now.tables s) + length (chunk chunks c).values < length (set_at now.tables s)
  putting_room lt room =
      let few = done_few p.owner chunks s m n c (length chunks) p.done row is p.left p.owned in
      let long = chunk_long p.owner chunks s m n c (length chunks) p.done row is p.left p.owned in
      let r = puts_room s p.done 15 old now lt p.puts (omega (arith, few, room)) in
      omega (arith, r, long)

  pub putting_on : (later : Tables) → s < length old.tables → Puts s (chunk chunks c).values now later → Putting chunks s row old later n (chunk chunks c).before
  putting_on later lt puts = record {
    owner = p.owner;
    done = (chunk chunks c).values ++ p.done;
    puts = puts_swapped s p.done (chunk chunks c).values old later (puts_both s p.done (chunk chunks c).values old now later lt p.puts puts);
    left = left_on p.owner chunks s m n c (length chunks) p.done row is p.left p.owned;
    owned = owned_on p.owner chunks s m n c (length chunks) p.done row is p.left p.owned;
  }

pub putting_done : (chunks : List Chunk) (s n c : ℕ) (row : List ℕ) (old now : Tables) → n ≡ 0 → Putting chunks s row old now n c → Puts s row old now
putting_done chunks s n c row old now is p = subst (λ xs. Puts s xs old now) (ap (λ k. values_of chunks k c 15 ++ p.done) (sym is) ∙ p.left) p.puts
