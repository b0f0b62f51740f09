-- Lists that share their fronts, from their last items to the front.
use Rattle.std.proofs.Common.{◌≡◌, inl, inr, ℕ, zero, suc, ◌+◌, ◌<◌, ◌≤◌, Bool, cond, List, [], ◌∷◌, ◌++◌, length, get_or, Option, Some, None}
use Rattle.std.proofs.Common.{refl, sym, ap, ◌∙◌, subst, arith, length-append, lt-ltb, le-ltb}
use Rattle.std.specs.List.{slice_get}
use Rattle.std.proofs.lemmas.List.{get_or_append_left, get_or_past}
use Rattle.std.proofs.Math.Seq.{get_or-append_seam}
use Rattle.scopes.specs.Paths.{list_at, lists_of, path, earlier}
use Rattle.scopes.proofs.Paths.{length-lists_of}
use Rattle.scopes.proofs.Linking.{split_at}

-- the lists in front stay
lists_stay : {A : Type 0} (lists : List (List A)) (ps : List (Option ℕ × A)) (j : ℕ) → j < length lists
    → get_or (lists_of lists ps) j [] ≡ get_or lists j []
lists_stay lists [] j h = refl
lists_stay lists (p ∷ ps) j h =
    let one = (list_at lists p.0 ++ p.1 ∷ []) ∷ [] in
    let longer : j < length (lists ++ one) = omega (arith, length-append lists one) in
    lists_stay (lists ++ one) ps j longer ∙ get_or_append_left lists one [] j h

-- the list that an item was put behind
behind_earlier : {A : Type 0} (lists : List (List A)) (ps : List (Option ℕ × A)) (o : Option ℕ)
    → list_at lists o ≡ list_at (lists_of lists ps) (earlier (length lists) o)
behind_earlier lists ps None = refl
behind_earlier {A} lists ps (Some j) =
    let n = length lists in
    let f : Bool → List A = λ b. list_at (lists_of lists ps) (cond b (Some j) None) in
    elim (split_at n j) [
      | inl le ↦ get_or_past lists j [] le ∙ sym (ap f (le-ltb j n le))
      | inr lt ↦ sym (ap f (lt-ltb j n lt) ∙ lists_stay lists ps j lt)
    ]

chain_step : {A : Type 0} (lists : List (List A)) (ps : List (Option ℕ × A)) (i : ℕ) (p : Option ℕ × A) → slice_get ps i ≡ Some p
    → get_or (lists_of lists ps) (length lists + i) [] ≡ list_at (lists_of lists ps) (earlier (length lists + i) p.0) ++ p.1 ∷ []
chain_step lists [] i p at = absurd cc
chain_step {A} lists (q ∷ qs) zero p at =
    let same : q ≡ p = cc in
    let front = list_at lists q.0 ++ q.1 ∷ [] in
    let none : length lists + 0 ≡ length lists = omega arith in
    let shorter : length lists < length (lists ++ front ∷ []) = omega (arith, length-append lists (front ∷ [])) in
    ap (λ (n : ℕ). get_or (lists_of (lists ++ front ∷ []) qs) n []) none
    ∙ lists_stay (lists ++ front ∷ []) qs (length lists) shorter
    ∙ get_or-append_seam lists front [] []
    ∙ ap (λ (xs : List A). xs ++ q.1 ∷ []) (behind_earlier lists (q ∷ qs) q.0)
    ∙ ap (λ (n : ℕ). list_at (lists_of lists (q ∷ qs)) (earlier n q.0) ++ q.1 ∷ []) (sym none)
    ∙ ap (λ (r : Option ℕ × A). list_at (lists_of lists (q ∷ qs)) (earlier (length lists + 0) r.0) ++ r.1 ∷ []) same
chain_step lists (q ∷ qs) (suc i) p at =
    let one = (list_at lists q.0 ++ q.1 ∷ []) ∷ [] in
    let next : length (lists ++ one) + i ≡ length lists + suc i = omega (arith, length-append lists one) in
    subst (λ (n : ℕ). get_or (lists_of (lists ++ one) qs) n [] ≡ list_at (lists_of (lists ++ one) qs) (earlier n p.0) ++ p.1 ∷ [])
    next (chain_step (lists ++ one) qs i p at)

-- the list that ends with an item is the one that ends with the item before it, and the item
pub path_step : {A : Type 0} (ps : List (Option ℕ × A)) (i : ℕ) (p : Option ℕ × A) → slice_get ps i ≡ Some p
    → path ps (Some i) ≡ path ps (earlier i p.0) ++ p.1 ∷ []
unfolding path
path_step {A} ps i p at =
    let lists = lists_of {A = A} [] ps in
    let same : 0 + i ≡ i = omega arith in
    subst (λ (n : ℕ). get_or lists n [] ≡ list_at lists (earlier n p.0) ++ p.1 ∷ []) same (chain_step {A = A} [] ps i p at)

past_none : {A : Type 0} (xs : List A) (i : ℕ) → slice_get xs i ≡ None → length xs ≤ i
past_none [] i gone = omega arith
past_none (x ∷ xs) zero gone = absurd cc
past_none (x ∷ xs) (suc i) gone = let rest : length xs ≤ i = past_none xs i gone in omega arith

-- no list ends past the last item
pub path_past : {A : Type 0} (ps : List (Option ℕ × A)) (i : ℕ) → slice_get ps i ≡ None → path ps (Some i) ≡ []
unfolding path
path_past {A} ps i gone =
    let size : length (lists_of {A = A} [] ps) ≡ 0 + length ps = length-lists_of [] ps in
    let past : length ps ≤ i = past_none ps i gone in
    let over : length (lists_of {A = A} [] ps) ≤ i = omega arith in
    get_or_past (lists_of [] ps) i [] over

pub path_none : {A : Type 0} (ps : List (Option ℕ × A)) → path ps None ≡ []
unfolding path
path_none ps = refl
