-- How many were put at each gap.
use Rattle.std.proofs.Common.{◌≡◌, ◌∙◌, ℕ, ◌+◌, ◌*◌, ◌<◌, ◌≤◌, Bool, true, false, cond, List, [], ◌∷◌, ◌++◌, length, set, get_or, replicate}
use Rattle.std.proofs.Common.{Some, None, refl, sym, ap, subst, arith, inl, inr, length-append, length-set}
use Rattle.std.specs.Prelude.{filter, slice_get, nat_eq}
use Rattle.std.proofs.lemmas.Bool.{cases_Bool, eqb-true, eqb-false}
use Rattle.std.proofs.lemmas.List.{get_or-set_same, get_or-set_other, get_or-replicate, length-replicate}
use Rattle.std.proofs.lemmas.List.Elements.{filter-append}
use Rattle.std.proofs.lemmas.Option.{slice_get-get_or, get_or_from_slice_get}
use Rattle.expanding.specs.Ranking.{many_at, taken_among, most_beside}
use Rattle.expanding.specs.Views.{AreFronts, AreCounts, IsRanker, IsGiven}
use Rattle.expanding.specs.declared.ranking.Ranker.{Ranker}

many_one : (g gap : ℕ) → length (filter (nat_eq g) (gap ∷ [])) ≡ cond (nat_eq g gap) 1 0
many_one g gap = at (nat_eq g gap)
  where
    at : (b : Bool) → length (cond b (gap ∷ []) []) ≡ cond b 1 0
    at true = refl
    at false = refl

many_more : (earlier : List ℕ) (g gap : ℕ) → many_at (earlier ++ gap ∷ []) g ≡ many_at earlier g + cond (nat_eq g gap) 1 0
many_more earlier g gap =
    ap length (filter-append (nat_eq g) earlier (gap ∷ []))
    ∙ (length-append (filter (nat_eq g) earlier) (filter (nat_eq g) (gap ∷ []))
    ∙ ap (λ n. many_at earlier g + n) (many_one g gap))

more_here : (earlier : List ℕ) (g gap : ℕ) → nat_eq g gap ≡ true → many_at (earlier ++ gap ∷ []) g ≡ many_at earlier g + 1
more_here earlier g gap y = many_more earlier g gap ∙ ap (λ (b : Bool). many_at earlier g + cond b 1 0) y

more_other : (earlier : List ℕ) (g gap : ℕ) → nat_eq g gap ≡ false → many_at (earlier ++ gap ∷ []) g ≡ many_at earlier g + 0
more_other earlier g gap n = many_more earlier g gap ∙ ap (λ (b : Bool). many_at earlier g + cond b 1 0) n

-- ---- counts

pub counts_none : (n : ℕ) → AreCounts [] (replicate n 0)
counts_none n = λ gap lt.
    slice_get-get_or (replicate n 0) gap 0 lt
    ∙ ap (λ v. Some v) (get_or-replicate n gap 0 0 (subst (λ k. gap < k) (length-replicate n 0) lt))

pub counts_more : (earlier counts : List ℕ) (gap count : ℕ) → AreCounts earlier counts → gap < length counts → count ≡ many_at earlier gap
    → AreCounts (earlier ++ gap ∷ []) (set counts gap (count + 1))
counts_more earlier counts gap count are lt is = λ g within.
    let long = length-set counts gap (count + 1) in
    let there : g < length counts = omega arith in
    slice_get-get_or (set counts gap (count + 1)) g 0 within
    ∙ ap (λ v. Some v) (elim (cases_Bool (nat_eq g gap)) [
      | inl y ↦
          let same : g ≡ gap = eqb-true g gap y in
          let here : get_or (set counts gap (count + 1)) g 0 ≡ count + 1 =
          ap (λ k. get_or (set counts gap (count + 1)) k 0) same ∙ get_or-set_same counts gap (count + 1) 0 lt in
          let many : many_at earlier g ≡ many_at earlier gap = ap (many_at earlier) same in
          let more = more_here earlier g gap y in
          let next : count + 1 ≡ many_at (earlier ++ gap ∷ []) g = omega arith in
          here ∙ next
      | inr n ↦
          let here = get_or-set_other counts gap g (count + 1) 0 (eqb-false g gap n) in
          let old : get_or counts g 0 ≡ many_at earlier g = get_or_from_slice_get counts g (many_at earlier g) 0 (are g there) in
          let more = more_other earlier g gap n in
          let next : many_at earlier g ≡ many_at (earlier ++ gap ∷ []) g = omega arith in
          here ∙ (old ∙ next)
    ])

-- ---- ranks

-- one more is put at a gap
pub given : (flags : List Bool) (earlier : List ℕ) (gap count : ℕ) (old new : Ranker) → IsRanker flags earlier old
    → gap ≤ taken_among flags (length flags) → Some count ≡ slice_get old.counts.items gap → count < most_beside
    → new.fronts.items ≡ old.fronts.items → new.counts.items ≡ set old.counts.items gap (count + 1)
    → IsGiven flags earlier gap (Some (100 * gap + (count + 1))) new
given flags earlier gap count old new h le is few fronts counts =
    let many = h.many in
    let within : gap < length old.counts.items = omega arith in
    let here = h.counts gap within in
    let both : Some count ≡ Some (many_at earlier gap) = is ∙ here in
    let same : count ≡ many_at earlier gap = cc in
    let long = ap length counts ∙ length-set old.counts.items gap (count + 1) in (
      omega arith,
      subst (λ n. n < most_beside) same few,
      record {
        fronts = subst (AreFronts flags) (sym fronts) h.fronts;
        many = long ∙ h.many;
        counts =
            subst (AreCounts (earlier ++ gap ∷ [])) (sym counts)
            (counts_more earlier old.counts.items gap count h.counts within same);
      },
    )

-- none may be put there
pub full : (flags : List Bool) (earlier : List ℕ) (gap count : ℕ) (old new : Ranker) → IsRanker flags earlier old
    → gap ≤ taken_among flags (length flags) → Some count ≡ slice_get old.counts.items gap → most_beside ≤ count
    → IsGiven flags earlier gap None new
full flags earlier gap count old new h le is many =
    let all = h.many in
    let here = h.counts gap (omega arith) in
    let both : Some count ≡ Some (many_at earlier gap) = is ∙ here in
    let same : count ≡ many_at earlier gap = cc in
    omega arith

-- there is no such gap
pub no_gap_there : (flags : List Bool) (earlier : List ℕ) (gap : ℕ) (old : Ranker) → IsRanker flags earlier old
    → gap ≤ taken_among flags (length flags) → None ≡ slice_get old.counts.items gap → ⊥
no_gap_there flags earlier gap old h le is =
    let all = h.many in
    let here = h.counts gap (omega arith) in
    let both : None ≡ Some (many_at earlier gap) = is ∙ here in
    cc
