-- The table's rule, from its start and over each step.
use Rattle.std.proofs.Common.{◌≡◌, ◌<◌, ◌≤◌, ◌+◌, ◌%◌, ◌^◌, ℕ, suc, List, [], ◌∷◌, ◌++◌, Bool, if◌then◌else◌, nat_lt, All, IsPermutation, length, slice_index, slice_set, inl, inr, ⊎_elim, sym, refl, ap, ◌∙◌, subst, arith, lt-ltb, le-ltb}
use Rattle.std.proofs.lemmas.List.{append_assoc, length-append, get_or_append_left}
use Rattle.std.proofs.lemmas.List.Sums.{sum_by-cons}
use Rattle.std.proofs.lemmas.List.Elements.{All-nil, All-cons, All-head, All-tail}
use Rattle.std.proofs.lemmas.List.Sorted.{IsPermutation-refl, IsPermutation-trans, IsPermutation-append_left, IsPermutation-append_right, IsPermutation-append_comm, All-permutation, sum_by-IsPermutation, length_permutation}
use Rattle.std.proofs.Math.Nat.{mod-eq_of_lt}
use mathlib.Core.Option.{Option}
use native.Mathlib.Decide.{dec_lt}
use Rattle.atomic_table.specs.Table.{State, Me, Allows, Splits, Joins, opening, keeps}
use Rattle.claims.specs.Claims.{up_to}
use Rattle.claims.specs.Rule.{View, nobody, first_view, dealt_left, newcomer, joined, all_claimed, all_parts, all_ended, IsFair, Ruled, after_claim, Claimed}
use Rattle.claims.proofs.Alike.{Alike, back, at_front, at_two, pushed}
use Rattle.claims.proofs.UpTo.{each_below}

abbrev pub of_view : View → List ℕ
of_view v = v.claimed

abbrev table : List ℕ → List (Option (Unit {0})) → List View → State (Unit {0}) View
table ws hs vs = record { words = ws; homes = hs; views = vs }

pub parts_of : (v : View) (vs : List View) → all_parts (v ∷ vs) ≡ v.parts + all_parts vs
parts_of = sum_by-cons (λ v. v.parts)

pub ended_of : (v : View) (vs : List View) → all_ended (v ∷ vs) ≡ v.ended + all_ended vs
ended_of = sum_by-cons (λ v. v.ended)

last_between : (ls ms : List ℕ) (x : ℕ) → IsPermutation ((ls ++ ms) ++ x ∷ []) ((ls ++ x ∷ []) ++ ms)
last_between ls ms x =
    subst (λ (l : List ℕ). IsPermutation l ((ls ++ x ∷ []) ++ ms)) (sym (append_assoc ls ms (x ∷ [])))
    (subst (λ (l : List ℕ). IsPermutation (ls ++ (ms ++ x ∷ [])) l) (sym (append_assoc ls (x ∷ []) ms))
    (IsPermutation-append_right ls (ms ++ x ∷ []) (x ∷ ms) (IsPermutation-append_comm ms (x ∷ []))))

module _ (count claimants : ℕ) where
  abbrev Holds : State (Unit {0}) View → Type 0
  Holds s = Ruled count claimants s

  -- to the rule it is nothing which view has what, nor in which order
  pub regrouped : (ws : List ℕ) (hs gs : List (Option (Unit {0}))) (vs us : List View) → IsPermutation (all_claimed vs) (all_claimed us)
      → all_ended us ≡ all_ended vs → all_parts us ≡ all_parts vs → All IsFair us → Holds (table ws hs vs) → Holds (table ws gs us)
  regrouped ws hs gs vs us claimed ends parts fair r =
      let long : length (all_claimed us) ≡ length (all_claimed vs) = length_permutation (all_claimed vs) (all_claimed us) claimed in
      record {
        parts = parts ∙ r.parts;
        fair = fair;
        each = subst (λ (n : ℕ). IsPermutation (up_to n) (all_claimed us)) (sym long) (IsPermutation-trans _ _ _ r.each claimed);
        within = let w = r.within in omega arith;
        last = ⊎_elim (λ (e : all_ended vs ≡ 0). inl (ends ∙ e)) (λ (e : length (all_claimed vs) ≡ count). inr (long ∙ e)) r.last;
        word = r.word ∙ (λ i. (sym long i + sym ends i) ∷ []);
        small = r.small;
      }

  pub reordered : (ws : List ℕ) (hs gs : List (Option (Unit {0}))) (vs us : List View) → Alike of_view vs us → Holds (table ws hs vs)
      → Holds (table ws gs us)
  reordered ws hs gs vs us a r = regrouped ws hs gs vs us a.flat
      (sum_by-IsPermutation (λ (v : View). v.ended) vs us a.order) (sum_by-IsPermutation (λ (v : View). v.parts) vs us a.order)
      (All-permutation IsFair vs us a.order r.fair) r

  pub opens : count + claimants < 2 ^ 64 → Holds (opening (0 ∷ []) [] (first_view count claimants))
  opens small = record {
    parts = omega arith;
    fair = All-cons IsFair (first_view count claimants) [] (record { ended = omega arith; idle = λ _. refl }) (All-nil IsFair);
    each = IsPermutation-refl [];
    within = omega arith;
    last = inl refl;
    word = refl;
    small = small;
  }

  pub deals : (id : ℕ) (v : View) → 1 ≤ v.parts → v.claimed ≡ [] → v.ended ≡ 0 → Splits Holds id v (dealt_left v) (newcomer v)
  deals id v dealable unclaimed unended s r at =
      let front = at_front of_view s.views id v at in
      let rest : List View = front.0 in
      let left : View = dealt_left v in
      let new : View = newcomer v in
      let before : Holds (table s.words s.homes (v ∷ rest)) = reordered s.words s.homes s.homes s.views (v ∷ rest) front.1 r in
      let fair : All IsFair (new ∷ left ∷ rest) =
      All-cons IsFair new (left ∷ rest) (record { ended = omega arith; idle = λ _. refl })
      (All-cons IsFair left rest (record { ended = omega (arith, unended); idle = λ _. unclaimed }) (All-tail IsFair v rest before.fair)) in
      reordered s.words s.homes s.homes (new ∷ left ∷ rest) (slice_set s.views id left ++ new ∷ [])
      (back of_view _ _ (pushed of_view (slice_set s.views id left) rest left new (front.2 left)))
      (regrouped s.words s.homes s.homes (v ∷ rest) (new ∷ left ∷ rest) (IsPermutation-refl (all_claimed (v ∷ rest)))
      (omega (arith, ended_of new (left ∷ rest), ended_of left rest, ended_of v rest))
      (omega (arith, parts_of new (left ∷ rest), parts_of left rest, parts_of v rest)) fair before)

  pub joins : (id other : ℕ) (v w : View) → Joins Holds id v other w (joined v w) nobody
  joins id other v w s r at apart there =
      let front = at_two of_view s.views id other v w (joined v w) at apart there in
      let rest : List View = front.0 in
      let both : View = joined v w in
      let before : Holds (table s.words s.homes (v ∷ w ∷ rest)) = reordered s.words s.homes s.homes s.views (v ∷ w ∷ rest) front.1 r in
      let others : All IsFair (w ∷ rest) = All-tail IsFair v (w ∷ rest) before.fair in
      let f : IsFair v = All-head IsFair v (w ∷ rest) before.fair in
      let g : IsFair w = All-head IsFair w rest others in
      let fair : All IsFair (both ∷ nobody ∷ rest) =
      All-cons IsFair both (nobody ∷ rest)
      (record { ended = let a = f.ended in let b = g.ended in omega arith; idle = λ e. idle_both f g e })
      (All-cons IsFair nobody rest (record { ended = omega arith; idle = λ _. refl }) (All-tail IsFair w rest others)) in
      reordered s.words s.homes s.homes (both ∷ nobody ∷ rest) (slice_set (slice_set s.views id both) other nobody)
      (back of_view _ _ (front.2 nobody))
      (regrouped s.words s.homes s.homes (v ∷ w ∷ rest) (both ∷ nobody ∷ rest)
      (subst (λ (l : List ℕ). IsPermutation (all_claimed (v ∷ w ∷ rest)) l) (sym (append_assoc v.claimed w.claimed (all_claimed rest)))
      (IsPermutation-refl (all_claimed (v ∷ w ∷ rest))))
      (omega (arith, ended_of both (nobody ∷ rest), ended_of nobody rest, ended_of v (w ∷ rest), ended_of w rest))
      (omega (arith, parts_of both (nobody ∷ rest), parts_of nobody rest, parts_of v (w ∷ rest), parts_of w rest)) fair before)
    where
      idle_both : IsFair v → IsFair w → v.parts + w.parts ≡ 0 → v.claimed ++ w.claimed ≡ []
      idle_both f g e =
          let a : v.claimed ≡ [] = f.idle (omega (arith, e)) in
          let b : w.claimed ≡ [] = g.idle (omega (arith, e)) in
          ap (λ (l : List ℕ). l ++ w.claimed) a ∙ b

  -- those that were told that there are no more are among the claimants
  ended_within : (vs : List View) → All IsFair vs → all_ended vs ≤ all_parts vs
  ended_within [] fair = omega arith
  ended_within (v ∷ vs) fair =
      let f : IsFair v = All-head IsFair v vs fair in
      let a = f.ended in
      let b = ended_within vs (All-tail IsFair v vs fair) in
      omega (arith, ended_of v vs, parts_of v vs, a, b)

  module _ (n : ℕ) (hs : List (Option (Unit {0}))) (v : View) (rest : List View) (r : Holds (table (n ∷ []) hs (v ∷ rest))) where
    abbrev many : ℕ
    many = length (all_claimed (v ∷ rest))

    is_word : n ≡ many + all_ended (v ∷ rest)
    is_word = ap (λ (l : List ℕ). slice_index l 0) r.word

    -- what the seat claimed is among the first n
    all_later : All (λ m. m < n) v.claimed
    all_later k d l =
        let h : All (λ m. m < many) (all_claimed (v ∷ rest)) =
        All-permutation (λ m. m < many) (up_to many) (all_claimed (v ∷ rest)) r.each (each_below many) in
        let e = get_or_append_left v.claimed (all_claimed rest) d k l in
        let a = length-append v.claimed (all_claimed rest) in
        let b = h k d (omega arith) in
        let w : n ≡ many + all_ended (v ∷ rest) = is_word in
        omega (arith, e, b, w)

    -- a number is found: nobody was told that there are no more, and n is the number of the claims
    next_claimed : n < count → v.parts ≡ 1 → Holds (table (suc n ∷ []) hs (record v { claimed = v.claimed ++ n ∷ [] } ∷ rest))
    next_claimed below one =
        let new : View = record v { claimed = v.claimed ++ n ∷ [] } in
        let word : n ≡ many + all_ended (v ∷ rest) = is_word in
        let nobody_ended : all_ended (v ∷ rest) ≡ 0 =
        ⊎_elim (λ (e : all_ended (v ∷ rest) ≡ 0). e) (λ (e : many ≡ count). absurd (omega arith)) r.last in
        let is : n ≡ many = omega arith in
        let moved : IsPermutation (all_claimed (v ∷ rest) ++ n ∷ []) (all_claimed (new ∷ rest)) =
        last_between v.claimed (all_claimed rest) n in
        let long : length (all_claimed (new ∷ rest)) ≡ suc many =
        length_permutation _ _ moved ∙ (length-append (all_claimed (v ∷ rest)) (n ∷ []) ∙ omega arith) in
        let ends : all_ended (new ∷ rest) ≡ all_ended (v ∷ rest) = omega (arith, ended_of new rest, ended_of v rest) in
        let fair : IsFair v = All-head IsFair v rest r.fair in
        record {
          parts = omega (arith, parts_of new rest, parts_of v rest, r.parts);
          fair = All-cons IsFair new rest (record { ended = fair.ended; idle = λ e. absurd (omega (arith, one, e)) })
              (All-tail IsFair v rest r.fair);
          each = subst (λ (k : ℕ). IsPermutation (up_to k) (all_claimed (new ∷ rest))) (sym long)
              (IsPermutation-trans (up_to many ++ many ∷ []) (all_claimed (v ∷ rest) ++ n ∷ []) (all_claimed (new ∷ rest))
              (subst (λ (k : ℕ). IsPermutation (up_to many ++ k ∷ []) (all_claimed (v ∷ rest) ++ n ∷ [])) is
              (IsPermutation-append_left (n ∷ []) (up_to many) (all_claimed (v ∷ rest)) r.each)) moved);
          within = omega arith;
          last = inl (ends ∙ nobody_ended);
          word = let w : suc n ≡ length (all_claimed (new ∷ rest)) + all_ended (new ∷ rest) = omega arith in λ i. w i ∷ [];
          small = r.small;
        }

    -- no number is found: all are claimed
    told_of_end : count ≤ n → v.parts ≡ 1 → v.ended ≡ 0 → Holds (table (suc n ∷ []) hs (record v { ended = suc v.ended } ∷ rest))
    told_of_end past one unended =
        let new : View = record v { ended = suc v.ended } in
        let word : n ≡ many + all_ended (v ∷ rest) = is_word in
        let within : many ≤ count = r.within in
        let ends : all_ended (new ∷ rest) ≡ suc (all_ended (v ∷ rest)) = omega (arith, ended_of new rest, ended_of v rest) in
        let fair : IsFair v = All-head IsFair v rest r.fair in
        record {
          parts = omega (arith, parts_of new rest, parts_of v rest, r.parts);
          fair = All-cons IsFair new rest (record { ended = omega arith; idle = fair.idle }) (All-tail IsFair v rest r.fair);
          each = r.each;
          within = within;
          last = inr (⊎_elim (λ (e : all_ended (v ∷ rest) ≡ 0). omega arith) (λ (e : many ≡ count). e) r.last);
          word = let w : suc n ≡ many + all_ended (new ∷ rest) = omega arith in λ i. w i ∷ [];
          small = r.small;
        }

    -- the seat's claimant wasn't told so, so the word is less than the claims and the claimants
    counted : v.parts ≡ 1 → v.ended ≡ 0 → suc n < 2 ^ 64
    counted one unended =
        let word : n ≡ many + all_ended (v ∷ rest) = is_word in
        let within : many ≤ count = r.within in
        let small = r.small in
        let others : all_ended rest ≤ all_parts rest = ended_within rest (All-tail IsFair v rest r.fair) in
        omega (arith, ended_of v rest, parts_of v rest, r.parts)

  module _ (ws : List ℕ) (hs : List (Option (Unit {0}))) (v : View) (rest : List View) (r : Holds (table ws hs (v ∷ rest)))
      (one : v.parts ≡ 1) (unended : v.ended ≡ 0) (known : v.count ≡ count) where
    abbrev found : ℕ
    found = slice_index ws 0

    is_found : ws ≡ found ∷ []
    is_found = r.word ∙ (λ i. sym (ap (λ (l : List ℕ). slice_index l 0) r.word) i ∷ [])

    with_found : Holds (table (found ∷ []) hs (v ∷ rest))
    with_found = subst (λ (l : List ℕ). Holds (table l hs (v ∷ rest))) is_found r

    is_set : slice_set ws 0 ((found + 1) % 2 ^ 64) ≡ suc found ∷ []
    is_set =
        let less : suc found < 2 ^ 64 = counted found hs v rest with_found one unended in
        let e : (found + 1) % 2 ^ 64 ≡ suc found = ap (λ (k : ℕ). k % 2 ^ 64) (omega arith) ∙ mod-eq_of_lt less in
        ap (λ (l : List ℕ). slice_set l 0 ((found + 1) % 2 ^ 64)) is_found ∙ (λ i. e i ∷ [])

    abbrev after_test : Bool → View
    after_test b = if b then record v { claimed = v.claimed ++ found ∷ [] } else record v { ended = suc v.ended }

    stepped_at : Dec (found < count) → Holds (table (suc found ∷ []) hs (after_claim v found ∷ rest))
    stepped_at (yes d) =
        subst (λ (b : Bool). Holds (table (suc found ∷ []) hs (after_test b ∷ rest)))
        (sym (ap (λ (k : ℕ). nat_lt found k) known ∙ lt-ltb found count d)) (next_claimed found hs v rest with_found d one)
    stepped_at (no d) =
        let past : count ≤ found = omega (arith, d) in
        subst (λ (b : Bool). Holds (table (suc found ∷ []) hs (after_test b ∷ rest)))
        (sym (ap (λ (k : ℕ). nat_lt found k) known ∙ le-ltb found count past)) (told_of_end found hs v rest with_found past one unended)

    claimed_front : Holds (table (slice_set ws 0 ((found + 1) % 2 ^ 64)) hs (after_claim v found ∷ rest)) × All (λ m. m < found) v.claimed
    claimed_front = (
      subst (λ (l : List ℕ). Holds (table l hs (after_claim v found ∷ rest))) (sym is_set) (stepped_at (dec_lt found count)),
      all_later found hs v rest with_found,
    )

  pub claims : (slots id : ℕ) (me : Me (Unit {0}) View) → me.0.parts ≡ 1 → me.0.ended ≡ 0 → me.0.count ≡ count
      → Allows Holds slots id me 0 (λ n. (n + 1) % 2 ^ 64) (Claimed me)
  claims slots id me one unended known s r _ at _ =
      let n : ℕ = slice_index s.words 0 in
      let front = at_front of_view s.views id me.0 at in
      let new : View = after_claim me.0 n in
      let before : Holds (table s.words s.homes (me.0 ∷ front.0)) = reordered s.words s.homes s.homes s.views (me.0 ∷ front.0) front.1 r in
      let stepped = claimed_front s.words s.homes me.0 front.0 before one unended known in (
        new,
        keeps,
        tt,
        reordered (slice_set s.words 0 ((n + 1) % 2 ^ 64)) s.homes s.homes (new ∷ front.0) (slice_set s.views id new)
            (back of_view _ _ (front.2 new)) stepped.0,
        record { is = refl; later = stepped.1 },
      )
