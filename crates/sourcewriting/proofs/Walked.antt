-- A walk through the nodes of a proof.
use Rattle.std.proofs.Common.{◌≡◌, ◌∙◌, ◌<◌, ◌≤◌, ◌⊎◌, ℕ, zero, suc, Bool, true, false, List, [], ◌∷◌, ◌++◌, length, map, get_or, set, reverse, replicate, Vec, Global, refl, sym, ap, subst, inl, inr, append_assoc, append-nil, arith, IsTrue}
use Rattle.std.specs.Prelude.{Contains, Some, slice_get, nat_lt, Result, Ok, Err, IfOk}
use Rattle.std.proofs.lemmas.Bool.{cond-true, lt-ltb, cases_lt}
use Rattle.std.proofs.lemmas.List.{length-replicate, length-set, reverse-append, reverse-reverse}
use Rattle.std.specs.List.{AllByRecursion}
use Rattle.std.proofs.lemmas.Option.{slice_get_within, slice_get_read}
use Rattle.mmsyntax.proofs.Items.{set_same}
use Rattle.taking.proofs.Turned.{turned_cons}
use Rattle.sourcewriting.specs.declared.shared.Shared.{Shared}
use Rattle.sourcewriting.specs.declared.walking.Put.{Put}
use Rattle.sourcewriting.specs.declared.walking.Task.{Task}
use Rattle.sourcewriting.specs.declared.walking.NodeWalk.{NodeWalk}
use Rattle.sourcewriting.specs.Nodes.{arguments_in}
use Rattle.sourcewriting.specs.Readable.{written_then}
use Rattle.sourcewriting.specs.Walked.{Walked, unwalked, visit, IsPut, IsPutOnce, IsPutAgain, ArePut, Find, AreTasks, IsWalking, WalksOn}

-- ---- flags

pub flag_other : {A : Type 0} (xs : List A) (i k : ℕ) (v : A) → (i ≡ k → ⊥) → slice_get (set xs i v) k ≡ slice_get xs k
flag_other [] i k v apart = refl
flag_other (x ∷ xs) zero zero v apart = absurd (apart refl)
flag_other (x ∷ xs) zero (suc k) v apart = refl
flag_other (x ∷ xs) (suc i) zero v apart = refl
flag_other (x ∷ xs) (suc i) (suc k) v apart = flag_other xs i k v (λ e. apart (ap suc e))

-- a flag that is set stays so
pub flag_stays : (xs : List Bool) (i k : ℕ) → slice_get xs k ≡ Some true → slice_get (set xs i true) k ≡ Some true
flag_stays [] i k at = at
flag_stays (x ∷ xs) zero zero at = refl
flag_stays (x ∷ xs) zero (suc k) at = at
flag_stays (x ∷ xs) (suc i) zero at = at
flag_stays (x ∷ xs) (suc i) (suc k) at = flag_stays xs i k at

-- one that isn't wasn't
pub flag_was : (xs : List Bool) (i k : ℕ) → slice_get (set xs i true) k ≡ Some false → slice_get xs k ≡ Some false
flag_was [] i k at = at
flag_was (x ∷ xs) zero zero at = absurd cc
flag_was (x ∷ xs) zero (suc k) at = at
flag_was (x ∷ xs) (suc i) zero at = at
flag_was (x ∷ xs) (suc i) (suc k) at = flag_was xs i k at

-- of two flags the other
pub flags_apart : (xs : List Bool) (i k : ℕ) → slice_get xs i ≡ Some true → slice_get xs k ≡ Some false → i ≡ k → ⊥
flags_apart xs i k is isnt same = let e : slice_get xs i ≡ slice_get xs k = ap (slice_get xs) same in cc

-- one that is read
pub flag_at : (xs : List Bool) (i : ℕ) (x v : Bool) → i < length xs → x ≡ get_or xs i x → x ≡ v → slice_get xs i ≡ Some v
flag_at xs i x v within is same = slice_get_read xs (length xs) i x refl within is ∙ ap (λ b. Some b) same

-- none is set
pub none_set : (n k : ℕ) → slice_get (replicate n false) k ≡ Some true → ⊥
none_set zero k at = cc
none_set (suc n) zero at = cc
none_set (suc n) (suc k) at = none_set n k at

pub none_taken : (n : ℕ) (written : List Bool) → n ≡ 0 → (node : ℕ) → written_then n node written ≡ written
none_taken n written e node = ap (λ k. written_then k node written) e

pub some_taken : (n : ℕ) (written : List Bool) → 0 < n → (node : ℕ) → written_then n node written ≡ set written node true
some_taken n written h node = cond-true (nat_lt 0 n) (set written node true) written (lt-ltb 0 n h)

-- ---- tasks

head_there : (t : Task) (ts : List Task) → Contains (t ∷ ts) t
head_there t ts = (zero, omega arith, refl)

tail_there : (t : Task) (ts : List Task) (u : Task) → Contains ts u → Contains (t ∷ ts) u
tail_there t ts u (k, h, e) = (suc k, omega arith, e)

which : (t : Task) (ts : List Task) (u : Task) → Contains (t ∷ ts) u → (t ≡ u) ⊎ Contains ts u
which t ts u (zero, h, e) = inl e
which t ts u (suc k, h, e) = inr (k, omega arith, e)

behind : (as' : List ℕ) (ts : List Task) (u : Task) → Contains ts u → Contains (map visit as' ++ ts) u
behind [] ts u has = has
behind (a ∷ as') ts u has = tail_there (visit a) (map visit as' ++ ts) u (behind as' ts u has)

pub cases_same : (n m : ℕ) → (n ≡ m) ⊎ (n ≡ m → ⊥)
cases_same n m =
    elim (cases_lt n m) [
      | inl h ↦ inr (λ e. absurd (omega arith))
      | inr g ↦ elim (cases_lt m n) [ inl h ↦ inr (λ e. absurd (omega arith)) | inr h ↦ inl (omega arith) ]
    ]

module _ (s : Shared) where
  -- one more is put
  put_more : (ps : List Put) (n : ℕ) (again : Bool) (a b c : Walked) → ArePut s ps a b → IsPut s n again b c
      → ArePut s (ps ++ record { node = n; is_again = again } ∷ []) a c
  put_more [] n again a b c all one = (c, subst (λ b. IsPut s n again b c) (sym all) one, refl)
  put_more (p ∷ ps) n again a b c all one = (all.0, all.1, put_more ps n again all.0 b c all.2 one)

  -- behind the end of a node those that are larger are open as before
  ended_tasks : (written opened : List Bool) (n : ℕ) (ts : List Task) → ((u : Task) → Contains ts u → IsTrue u.is_end → n < u.node)
      → AreTasks s written opened ts → AreTasks s (set written n true) opened ts
  ended_tasks written opened n [] larger are = tt
  ended_tasks written opened n (t ∷ ts) larger are = (
    are.0,
    λ is.
        let is_open = are.1 is in
        let h : n < t.node = larger t (head_there t ts) is in
        record {
          unwritten = flag_other written n t.node true (λ e. absurd (omega (arith, h, e))) ∙ is_open.unwritten;
          noted = is_open.noted;
          some = is_open.some;
        },
    are.2,
    ended_tasks written opened n ts (λ u has. larger u (tail_there t ts u has)) are.3,
  )

  -- where one more is open
  opened_tasks : (written opened : List Bool) (n : ℕ) (ts : List Task) → AreTasks s written opened ts
      → AreTasks s written (set opened n true) ts
  opened_tasks written opened n [] are = tt
  opened_tasks written opened n (t ∷ ts) are = (
    are.0,
    λ is.
        let is_open = are.1 is in
        record { unwritten = is_open.unwritten; noted = flag_stays opened n t.node is_open.noted; some = is_open.some },
    are.2,
    opened_tasks written opened n ts are.3,
  )

  -- what ends later isn't among those that are walked through next
  later : (as' : List ℕ) (ts : List Task) (u : Task) → Contains (map visit as' ++ ts) u → IsTrue u.is_end → Contains ts u
  later [] ts u has is = has
  later (a ∷ as') ts u has is =
      elim (which (visit a) (map visit as' ++ ts) u has) [
        | inl same ↦ let e : false ≡ u.is_end = ap (λ (t : Task). t.is_end) same in absurd cc
        | inr rest ↦ later as' ts u rest is
      ]

  visits : (written opened : List Bool) (n : ℕ) (as' : List ℕ) (ts : List Task) → n ≤ length s.nodes.items
      → AllByRecursion (λ a. a < n) as' → ((u : Task) → Contains ts u → IsTrue u.is_end → n ≤ u.node) → AreTasks s written opened ts
      → AreTasks s written opened (map visit as' ++ ts)
  visits written opened n [] ts there below larger are = are
  visits written opened n (a ∷ as') ts there below larger are = (
    omega (arith, there, below.0),
    λ is. absurd cc,
    λ u has is. let h = larger u (later as' ts u has is) is in omega (arith, h, below.0),
    visits written opened n as' ts there below.1 larger are,
  )

  -- they put arguments on the stack
  visits_find : (as' : List ℕ) (ts : List Task) (entries : List ℕ) → Find s ts (entries ++ as') → Find s (map visit as' ++ ts) entries
  visits_find [] ts entries find = subst (Find s ts) (append-nil entries) find
  visits_find (a ∷ as') ts entries find =
      visits_find as' ts (entries ++ a ∷ []) (subst (Find s ts) (sym (append_assoc entries (a ∷ []) as')) find)

  module _ (puts : List Put) (opened : List Bool) (n : ℕ) (ts : List Task) where
    -- a node that was walked through ends
    pub ended : IsWalking s puts opened (record { node = n; is_end = true } ∷ ts)
        → IsWalking s (puts ++ record { node = n; is_again = false } ∷ []) opened ts
    ended w =
        let old = w.state in
        let many = length (arguments_in s n) in
        let is_open = w.are.1 refl in
        let new : Walked = record { entries = w.find.0 ++ n ∷ []; written = written_then many n old.written } in
        let then : new.written ≡ set old.written n true = some_taken many old.written is_open.some n in
        let within = slice_get_within old.written n false is_open.unwritten in
        let one : IsPutOnce s n old new = record {
          there = w.are.0;
          front = w.find.0;
          split = w.find.1;
          first = λ _. is_open.unwritten;
          left = refl;
        } in
        record {
          state = new;
          put = put_more puts n false (unwalked (length s.nodes.items)) old new w.put one;
          many = w.many;
          find = w.find.2;
          are = subst (λ written. AreTasks s written opened ts) (sym then) (ended_tasks old.written opened n ts w.are.2 w.are.3);
          begun = λ m at.
              elim (w.begun m at) [
                | inl h ↦ inl (ap (λ fs. slice_get fs m) then ∙ flag_stays old.written n m h)
                | inr has ↦
                    elim (which (record { node = n; is_end = true }) ts (record { node = m; is_end = true }) has) [
                      | inl same ↦
                          let e : n ≡ m = ap (λ (t : Task). t.node) same in
                          inl (ap (λ fs. slice_get fs m) then
                          ∙ subst (λ k. slice_get (set old.written n true) k ≡ Some true) e (set_same old.written n true within))
                      | inr rest ↦ inr rest
                    ]
              ];
          shut = λ m at.
              ap (λ fs. slice_get fs m) then
              ∙ flag_other old.written n m true (flags_apart opened n m is_open.noted at)
              ∙ w.shut m at;
        }

    -- a node with no arguments is put
    pub leaf_put : arguments_in s n ≡ [] → IsWalking s puts opened (record { node = n; is_end = false } ∷ ts)
        → IsWalking s (puts ++ record { node = n; is_again = false } ∷ []) opened ts
    leaf_put none w =
        let old = w.state in
        let many = length (arguments_in s n) in
        let zero : many ≡ 0 = ap length none in
        let new : Walked = record { entries = old.entries ++ n ∷ []; written = written_then many n old.written } in
        let then : new.written ≡ old.written = none_taken many old.written zero n in
        let one : IsPutOnce s n old new = record {
          there = w.are.0;
          front = old.entries;
          split = sym (ap (λ as'. old.entries ++ as') none ∙ append-nil old.entries);
          first = λ some. absurd (omega (arith, zero, some));
          left = refl;
        } in
        record {
          state = new;
          put = put_more puts n false (unwalked (length s.nodes.items)) old new w.put one;
          many = w.many;
          find = w.find;
          are = subst (λ written. AreTasks s written opened ts) (sym then) w.are.3;
          begun = λ m at.
              elim (w.begun m at) [
                | inl h ↦ inl (ap (λ fs. slice_get fs m) then ∙ h)
                | inr has ↦
                    elim (which (record { node = n; is_end = false }) ts (record { node = m; is_end = true }) has) [
                      | inl same ↦ let e : false ≡ true = ap (λ (t : Task). t.is_end) same in absurd cc
                      | inr rest ↦ inr rest
                    ]
              ];
          shut = λ m at. ap (λ fs. slice_get fs m) then ∙ w.shut m at;
        }

    -- what was opened is put already
    pub put_again : slice_get opened n ≡ Some true → IsWalking s puts opened (record { node = n; is_end = false } ∷ ts)
        → IsWalking s (puts ++ record { node = n; is_again = true } ∷ []) opened ts
    put_again is w =
        let old = w.state in
        let new : Walked = record old { entries = old.entries ++ n ∷ [] } in
        let found : slice_get old.written n ≡ Some true =
        elim (w.begun n is) [
          | inl h ↦ h
          | inr has ↦
              elim (which (record { node = n; is_end = false }) ts (record { node = n; is_end = true }) has) [
                | inl same ↦ let e : false ≡ true = ap (λ (t : Task). t.is_end) same in absurd cc
                | inr rest ↦ let h : n < n = w.are.2 (record { node = n; is_end = true }) rest refl in absurd (omega (arith, h))
              ]
        ] in
        let again : IsPutAgain s n old new = record { there = w.are.0; found = found; left = refl } in
        record {
          state = new;
          put = put_more puts n true (unwalked (length s.nodes.items)) old new w.put again;
          many = w.many;
          find = w.find;
          are = w.are.3;
          begun = λ m at.
              elim (w.begun m at) [
                | inl h ↦ inl h
                | inr has ↦
                    elim (which (record { node = n; is_end = false }) ts (record { node = m; is_end = true }) has) [
                      | inl same ↦ let e : false ≡ true = ap (λ (t : Task). t.is_end) same in absurd cc
                      | inr rest ↦ inr rest
                    ]
              ];
          shut = w.shut;
        }

    -- a node is opened: its arguments are walked through next
    pub opens : slice_get opened n ≡ Some false → 0 < length (arguments_in s n) → AllByRecursion (λ a. a < n) (arguments_in s n)
        → IsWalking s puts opened (record { node = n; is_end = false } ∷ ts)
        → IsWalking s puts (set opened n true) (map visit (arguments_in s n) ++ record { node = n; is_end = true } ∷ ts)
    opens is some below w =
        let old = w.state in
        let end : Task = record { node = n; is_end = true } in
        let within = slice_get_within opened n false is in
        let there : n < length s.nodes.items = w.are.0 in
        let rest : AreTasks s old.written (set opened n true) (end ∷ ts) = (
          there,
          λ _. record { unwritten = w.shut n is; noted = set_same opened n true within; some = some },
          w.are.2,
          opened_tasks old.written opened n ts w.are.3,
        ) in
        let larger : (u : Task) → Contains (end ∷ ts) u → IsTrue u.is_end → n ≤ u.node = λ u has is-end.
        elim (which end ts u has) [
          | inl same ↦ let e : n ≡ u.node = ap (λ (t : Task). t.node) same in omega (arith, e)
          | inr rest ↦ let h = w.are.2 u rest is-end in omega (arith, h)
        ] in
        let among : (m : ℕ) → Contains (end ∷ ts) (record { node = m; is_end = true })
        → Contains (map visit (arguments_in s n) ++ end ∷ ts) (record { node = m; is_end = true }) = λ m has.
        behind (arguments_in s n) (end ∷ ts) (record { node = m; is_end = true }) has in
        record {
          state = old;
          put = w.put;
          many = length-set opened n true ∙ w.many;
          find = visits_find (arguments_in s n) (end ∷ ts) old.entries (old.entries, refl, w.find);
          are = visits old.written (set opened n true) n (arguments_in s n) (end ∷ ts) (omega (arith, there)) below larger rest;
          begun = λ m at.
              elim (cases_same n m) [
                | inl same ↦
                    inr (among m (subst (λ (k : ℕ). Contains (end ∷ ts) (record { node = k; is_end = true })) same (head_there end ts)))
                | inr apart ↦
                    elim (w.begun m (sym (flag_other opened n m true apart) ∙ at)) [
                      | inl h ↦ inl h
                      | inr has ↦
                          elim (which (record { node = n; is_end = false }) ts (record { node = m; is_end = true }) has) [
                            | inl same ↦ let e : false ≡ true = ap (λ (t : Task). t.is_end) same in absurd cc
                            | inr rest ↦ inr (among m (tail_there end ts (record { node = m; is_end = true }) rest))
                          ]
                    ]
              ];
          shut = λ m at. w.shut m (flag_was opened n m at);
        }

-- before the first step
pub walk_begins : (s : Shared) (root : ℕ) → root < length s.nodes.items
    → IsWalking s [] (replicate (length s.nodes.items) false) (record { node = root; is_end = false } ∷ [])
walk_begins s root there = record {
  state = unwalked (length s.nodes.items);
  put = refl;
  many = length-replicate (length s.nodes.items) false;
  find = tt;
  are = (there, λ is. absurd cc, λ u has is. absurd (let h = has.1 in omega (arith, h)), tt);
  begun = λ m at. absurd (none_set (length s.nodes.items) m at);
  shut = λ m at. at;
}

-- what is next, by its kind
pub next_is : (s : Shared) (puts : List Put) (opened : List Bool) (t : Task) (ts : List Task) (b : Bool) → t.is_end ≡ b
    → IsWalking s puts opened (t ∷ ts) → IsWalking s puts opened (record { node = t.node; is_end = b } ∷ ts)
next_is s puts opened t ts b e w = subst (λ b. IsWalking s puts opened (record { node = t.node; is_end = b } ∷ ts)) e w

-- where a node is put
pub put_walks : (s : Shared) (old new : NodeWalk) (t : Task) (again : Bool) → new ≡ record old { puts = new.puts }
    → new.puts.items ≡ old.puts.items ++ record { node = t.node; is_again = again } ∷ []
    → (IsWalking s old.puts.items old.opened.items (t ∷ reverse old.tasks.items)
    → IsWalking s (old.puts.items ++ record { node = t.node; is_again = again } ∷ []) old.opened.items (reverse old.tasks.items))
    → WalksOn s old t new
put_walks s old new t again same is step w =
    let one = subst (λ ps. IsWalking s ps old.opened.items (reverse old.tasks.items)) (sym is) (step w) in
    let two = subst (λ (fs : Vec Bool Global). IsWalking s new.puts.items fs.items (reverse old.tasks.items))
    (sym (ap (λ (w : NodeWalk). w.opened) same)) one in
    subst (λ (ts : Vec Task Global). IsWalking s new.puts.items new.opened.items (reverse ts.items))
    (sym (ap (λ (w : NodeWalk). w.tasks) same)) two

-- where it is opened
pub open_walks : (s : Shared) (old new : NodeWalk) (t : Task) (args : List ℕ) → new.puts ≡ old.puts
    → new.opened.items ≡ set old.opened.items t.node true
    → new.tasks.items ≡ old.tasks.items ++ record { node = t.node; is_end = true } ∷ reverse (map visit args)
    → (IsWalking s old.puts.items old.opened.items (t ∷ reverse old.tasks.items)
    → IsWalking s old.puts.items (set old.opened.items t.node true)
    (map visit args ++ record { node = t.node; is_end = true } ∷ reverse old.tasks.items)) → WalksOn s old t new
open_walks s old new t args same opened tasks step w =
    let end : Task = record { node = t.node; is_end = true } in
    let turned : reverse new.tasks.items ≡ map visit args ++ end ∷ reverse old.tasks.items =
    ap reverse tasks
    ∙ reverse-append old.tasks.items (end ∷ reverse (map visit args))
    ∙ ap (λ ts. ts ++ reverse old.tasks.items) (turned_cons end (reverse (map visit args)))
    ∙ append_assoc (reverse (reverse (map visit args))) (end ∷ []) (reverse old.tasks.items)
    ∙ ap (λ ts. ts ++ end ∷ reverse old.tasks.items) (reverse-reverse (map visit args)) in
    let one = subst (λ (ps : Vec Put Global). IsWalking s ps.items (set old.opened.items t.node true)
    (map visit args ++ end ∷ reverse old.tasks.items)) (sym same) (step w) in
    let two = subst (λ fs. IsWalking s new.puts.items fs (map visit args ++ end ∷ reverse old.tasks.items)) (sym opened) one in
    subst (λ ts. IsWalking s new.puts.items new.opened.items ts) (sym turned) two

pub none_of : (xs : List ℕ) → length xs ≡ 0 → xs ≡ []
none_of [] e = refl
none_of (x ∷ xs) e = absurd (omega arith)

-- what follows from three clauses
pub if_three : {T E : Type 0} {P Q R S : T → Type 0} (r : Result T E) → ((x : T) → P x → Q x → R x → S x) → IfOk r P → IfOk r Q → IfOk r R
    → IfOk r S
if_three (Ok x) f p q h = f x p q h
if_three (Err e) f p q h = tt
