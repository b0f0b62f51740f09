-- The cells of a step of a commit, listed in ascending order.
use Rattle.std.proofs.Common.{◌≡◌, ◌≢◌, ℕ, zero, suc, ◌+◌, ◌<◌, ◌≤◌, ◌⊎◌, inl, inr, ⊎_elim, eqb-true, eq-eqb, ne_eqb, Bool, true, false, ◌==◌, ◌||◌, not, is_some, if◌then◌else◌, Option, Some, None, List, [], ◌∷◌, ◌++◌, length, take, slice_get, sym, refl, ap, ◌∙◌, subst, arith}
use Rattle.std.specs.Prelude.{slice_index_or, option_and_then, ◌&&◌}
use Rattle.std.specs.Option.{option_map, unwrap_or}
use Rattle.std.specs.List.{list_any, sum_by}
use Rattle.std.specs.List.Sorted.{IsPermutation, IsNonDecreasingBy}
use Rattle.std.proofs.lemmas.List.Sorted.{All-permutation, list_any-IsPermutation, sum_by-IsPermutation}
use Rattle.std.proofs.lemmas.List.Sums.{sum_by-append, sum_by_more, sum_by_more_le}
use Rattle.std.proofs.lemmas.Option.{get_or_from_slice_get, slice_get-map}
use Rattle.std.proofs.lemmas.Bool.{cases_lt}
use Rattle.std.proofs.lemmas.List.{append-nil, append_assoc, length-append, take_more}
use mathlib.Core.Logic.{dite}
use mathlib.Core.Bool.{beq}
use native.Mathlib.Decide.{ℕ_discrete}
use Rattle.tlcore.proofs.Lists.{known, both_left, both_right, get_within}
use Rattle.tlcore.proofs.Growth.{get_exists}
use Rattle.tlwords.specs.declared.log.Slot.{Slot}
use Rattle.tlwords.specs.declared.log.Touched.{Touched}
use Rattle.tlwords.specs.declared.slots.Entry.{Entry}
use Rattle.tlwords.specs.Runs.{word_seen, value_kept, was_read}
use Rattle.tlwords.specs.Walks.{is_wanted, NoneWanted, IsNext, low_of, behind, IsPlan}
use Rattle.tlwords.specs.Entries.{slots_of, slot_at, slot_in, IsIndexed, pick, picked}
use Rattle.tlwords.specs.Commits.{writes_kept}
use Rattle.tlwords.proofs.Entries.{slot_found}
use Rattle.tlwords.proofs.Settles.{some_writes}

-- ---- a step of a plan, as the loops ask for it

module _ (slots : List Slot) (kept : Bool) (ts : List Touched) (p : IsPlan slots kept ts) where
  -- the cell at the place n of a plan, along which a loop goes up to its length
  module _ (n last count : ℕ) (t : Touched) (l : n < last) (is : last ≡ count) (own : count ≡ length ts) (e : t
      ≡ slice_index_or ts n t) where
    here : slice_get ts n ≡ Some t
    here =
        let x = get_exists ts n (omega (arith, l, is, own)) in
        x.1 ∙ ap (λ (y : Touched). Some y) (sym (get_or_from_slice_get ts n x.0 t x.1) ∙ sym e)

    pub plan_at : IsNext slots kept (low_of ts n) t
    plan_at = p.0 n t here

    pub plan_next : low_of ts (n + 1) ≡ t.cell + 1
    plan_next =
        ap (low_of ts) (let a : n + 1 ≡ suc n = omega arith in a)
        ∙ (ap behind here ∙ (let a : suc t.cell ≡ t.cell + 1 = omega arith in a))

  pub plan_low : (n : ℕ) → n ≤ length ts → low_of ts n ≤ length slots
  plan_low zero l = omega arith
  plan_low (suc n) l =
      let x = get_exists ts n (omega arith) in
      let a : x.0.cell < length slots = (p.0 n x.0 x.1).0.1 in
      let b : low_of ts (suc n) ≡ suc x.0.cell = ap behind x.1 in omega (arith, a, b)

  pub plan_end : (n : ℕ) → length ts ≤ n → n ≤ length ts → NoneWanted slots kept (low_of ts n) (length slots)
  plan_end n a b = subst (λ k. NoneWanted slots kept (low_of ts k) (length slots)) (let e : length ts ≡ n = omega arith in e) p.1

-- ---- how a plan is made

module _ (slots : List Slot) where
  -- what is to be so of each cell of a plan
  abbrev Fits : Bool → Touched → Type 0
  Fits kept t = (t.cell < length slots) × (is_wanted slots kept t.cell ≡ true) × (word_seen slots t.cell ≡ Some t.word) ×
      (kept ≡ true → value_kept slots t.cell ≡ Some t.value)

  -- an entry has what is kept of its cell
  abbrev Matches : Entry → Type 0
  Matches e = (e.cell < length slots) × (word_seen slots e.cell ≡ Some e.word) × (value_kept slots e.cell ≡ e.kept)

  wanted_so : (kept : Bool) (c : ℕ) (w : ℕ) (o : Option ℕ) → word_seen slots c ≡ Some w → value_kept slots c ≡ o →
      (if kept then is_some o else not (is_some o)) ≡ true
      → is_wanted slots kept c ≡ true
  wanted_so true c w o a b e = ap (λ p. is_some p && is_some (value_kept slots c)) a ∙ (ap is_some b ∙ e)
  wanted_so false c w o a b e = ap (λ p. is_some p && not (is_some (value_kept slots c))) a ∙ (ap (λ p. not (is_some p)) b ∙ e)

  pick_fits : (kept : Bool) (e : Entry) (o : Option ℕ) → o ≡ e.kept → Matches e → (k : ℕ) (t : Touched) → slice_get (pick kept e o) k ≡
      Some t → Fits kept t
  pick_fits true e None q m k t g = absurd (cc)
  pick_fits true e (Some v) q m zero t g =
      subst (Fits true) {x = record { cell = e.cell; word = e.word; value = v }}
      (let a : Some (record { cell = e.cell; word = e.word; value = v }) ≡ Some t = g in cc)
      (m.0, wanted_so true e.cell e.word (Some v) m.1 (m.2 ∙ sym q) refl, m.1, λ _. m.2 ∙ sym q)
  pick_fits true e (Some v) q m (suc k) t g = absurd (cc)
  pick_fits false e None q m zero t g =
      subst (Fits false) {x = record { cell = e.cell; word = e.word; value = 0 }}
      (let a : Some (record { cell = e.cell; word = e.word; value = 0 }) ≡ Some t = g in cc)
      (m.0, wanted_so false e.cell e.word None m.1 (m.2 ∙ sym q) refl, m.1, λ f. absurd (cc))
  pick_fits false e None q m (suc k) t g = absurd (cc)
  pick_fits false e (Some v) q m k t g = absurd (cc)

  get_cases : (xs ys : List Touched) (k : ℕ) (t : Touched) → slice_get (xs ++ ys) k ≡ Some t
      → (slice_get xs k ≡ Some t) ⊎ ((j : ℕ) × (slice_get ys j ≡ Some t))
  get_cases [] ys k t g = inr (k, g)
  get_cases (x ∷ xs) ys zero t g = inl g
  get_cases (x ∷ xs) ys (suc k) t g = get_cases xs ys k t g

  picked_fit : (kept : Bool) (es : List Entry) → ((k : ℕ) (e : Entry) → slice_get es k ≡ Some e → Matches e)
      → (k : ℕ) (t : Touched) → slice_get (picked kept es) k ≡ Some t → Fits kept t
  picked_fit kept [] h k t g = absurd (cc)
  picked_fit kept (e ∷ es) h k t g =
      ⊎_elim (λ p. pick_fits kept e e.kept refl (h zero e refl) k t p)
      (λ p. picked_fit kept es (λ j d q. h (suc j) d q) p.0 t p.1) (get_cases (pick kept e e.kept) (picked kept es) k t g)

  -- a cell that is wanted is among those picked
  any_append : (c : ℕ) (xs ys : List Touched) → (list_any (λ t. t.cell == c) xs ≡ true) ⊎ (list_any (λ t. t.cell == c) ys ≡ true)
      → list_any (λ t. t.cell == c) (xs ++ ys) ≡ true
  any_append c [] ys (inl e) = absurd (cc)
  any_append c [] ys (inr e) = e
  any_append c (x ∷ xs) ys h = go (x.cell == c) h (any_append c xs ys)
    where
      go : (b : Bool) → ((b || list_any (λ t. t.cell == c) xs) ≡ true) ⊎ (list_any (λ t. t.cell == c) ys ≡ true)
          → ((list_any (λ t. t.cell == c) xs ≡ true) ⊎ (list_any (λ t. t.cell == c) ys ≡ true) → list_any (λ t. t.cell == c) (xs ++ ys) ≡
          true)
          → (b || list_any (λ t. t.cell == c) (xs ++ ys)) ≡ true
      go true h ih = refl
      go false h ih = ih h

  pick_any : (kept : Bool) (e : Entry) (o : Option ℕ) → (if kept then is_some o else not (is_some o)) ≡ true
      → list_any (λ t. t.cell == e.cell) (pick kept e o) ≡ true
  pick_any true e None h = absurd (cc)
  pick_any true e (Some v) h = ap (λ b. b || false) (eq-eqb e.cell e.cell refl)
  pick_any false e None h = ap (λ b. b || false) (eq-eqb e.cell e.cell refl)
  pick_any false e (Some v) h = absurd (cc)

  picked_any : (kept : Bool) (es : List Entry) (k : ℕ) (e : Entry) → slice_get es k ≡ Some e →
      (if kept then is_some e.kept else not (is_some e.kept)) ≡ true
      → list_any (λ t. t.cell == e.cell) (picked kept es) ≡ true
  picked_any kept [] k e g h = absurd (cc)
  picked_any kept (d ∷ es) zero e g h =
      let p : d ≡ e = cc in
      any_append e.cell (pick kept d d.kept) (picked kept es)
      (inl (subst (λ (x : Entry). list_any (λ t. t.cell == e.cell) (pick kept x x.kept) ≡ true) (sym p) (pick_any kept e e.kept h)))
  picked_any kept (d ∷ es) (suc k) e g h = any_append e.cell (pick kept d d.kept) (picked kept es) (inr (picked_any kept es k e g h))

  any_at : (c : ℕ) (ts : List Touched) → list_any (λ t. t.cell == c) ts ≡ true → (k : ℕ) × (t : Touched) × (slice_get ts k ≡ Some t) ×
      (t.cell ≡ c)
  any_at c [] e = absurd (cc)
  any_at c (t ∷ ts) e = ⊎_elim (λ p. (zero, t, refl, eqb-true t.cell c p))
      (λ p. let r = any_at c ts (sym (ap (λ b. b || list_any (λ t. t.cell == c) ts) p) ∙ e) in (suc r.0, r.1, r.2, r.3))
      (known (t.cell == c))

  -- ---- each cell is picked once at most

  abbrev one : ℕ → Touched → ℕ
  one c t = if t.cell == c then 1 else 0

  one_at : (c : ℕ) (t : Touched) → t.cell ≡ c → one c t ≡ 1
  one_at c t e = ap (λ (b : Bool). if b then 1 else 0) (eq-eqb t.cell c e)

  pick_most : (kept : Bool) (e : Entry) (o : Option ℕ) (c : ℕ) → sum_by (one c) (pick kept e o) ≤ 1
  pick_most true e None c = omega arith
  pick_most true e (Some v) c = go (e.cell == c)
    where
      go : (b : Bool) → 0 + (if b then 1 else 0) ≤ 1
      go true = omega arith
      go false = omega arith
  pick_most false e None c = go (e.cell == c)
    where
      go : (b : Bool) → 0 + (if b then 1 else 0) ≤ 1
      go true = omega arith
      go false = omega arith
  pick_most false e (Some v) c = omega arith

  pick_none : (kept : Bool) (e : Entry) (o : Option ℕ) (c : ℕ) → e.cell ≢ c → sum_by (one c) (pick kept e o) ≡ 0
  pick_none true e None c n = refl
  pick_none true e (Some v) c n = ap (λ (b : Bool). 0 + (if b then 1 else 0)) (ne_eqb e.cell c n)
  pick_none false e None c n = ap (λ (b : Bool). 0 + (if b then 1 else 0)) (ne_eqb e.cell c n)
  pick_none false e (Some v) c n = refl

  picked_none : (kept : Bool) (es : List Entry) (c : ℕ) → ((k : ℕ) (e : Entry) → slice_get es k ≡ Some e → e.cell ≢ c) → sum_by (one c)
      (picked kept es) ≡ 0
  picked_none kept [] c h = refl
  picked_none kept (e ∷ es) c h =
      let a = sum_by-append (one c) (pick kept e e.kept) (picked kept es) in
      let b = pick_none kept e e.kept c (h zero e refl) in
      let d = picked_none kept es c (λ k e g. h (suc k) e g) in omega (arith, a, b, d)

  -- no two entries are of one cell
  abbrev Apart : List Entry → Type 0
  Apart es = (i j : ℕ) (d e : Entry) → slice_get es i ≡ Some d → slice_get es j ≡ Some e → d.cell ≡ e.cell → i ≡ j

  picked_most : (kept : Bool) (es : List Entry) → Apart es → (c : ℕ) → sum_by (one c) (picked kept es) ≤ 1
  picked_most kept [] h c = omega arith
  picked_most kept (e ∷ es) h c =
      let a = sum_by-append (one c) (pick kept e e.kept) (picked kept es) in
      dite (ℕ_discrete e.cell c)
      (λ p. let b = pick_most kept e e.kept c in
      let d = picked_none kept es c (λ k f g q. let z : zero ≡ suc k = h zero (suc k) e f refl g (p ∙ sym q) in absurd
      (omega (arith, z))) in omega (arith, a, b, d))
      (λ n. let b = pick_none kept e e.kept c n in
      let d = picked_most kept es (λ i j u v g q s. let z : suc i ≡ suc j = h (suc i) (suc j) u v g q s in omega (arith, z)) c in omega
      (arith, a, b, d))

  -- ---- the cells in ascending order

  module _ (kept : Bool) (ts : List Touched) (fits : (k : ℕ) (t : Touched) → slice_get ts k ≡ Some t → Fits kept t)
      (found : (c : ℕ) → is_wanted slots kept c ≡ true → list_any (λ t. t.cell == c) ts ≡ true)
      (once : (c : ℕ) → sum_by (one c) ts ≤ 1) (up : IsNonDecreasingBy (λ (t : Touched). t.cell) ts) where
    rises : (i j : ℕ) (x y : Touched) → i ≤ j → slice_get ts i ≡ Some x → slice_get ts j ≡ Some y → x.cell ≤ y.cell
    rises i j x y l g h =
        let a : (slice_index_or ts i x).cell ≤ (slice_index_or ts j x).cell = up i j x l (get_within ts j y h) in
        let b : slice_index_or ts i x ≡ x = get_or_from_slice_get ts i x x g in
        let c : slice_index_or ts j x ≡ y = get_or_from_slice_get ts j y x h in
        let d : (slice_index_or ts i x).cell ≡ x.cell = ap (λ (t : Touched). t.cell) b in
        let e : (slice_index_or ts j x).cell ≡ y.cell = ap (λ (t : Touched). t.cell) c in
        omega (arith, a, d, e)

    differ : (i : ℕ) (x y : Touched) → slice_get ts i ≡ Some x → slice_get ts (suc i) ≡ Some y → x.cell ≢ y.cell
    differ i x y g h e =
        let c = y.cell in
        let m = get_within ts (suc i) y h in
        let a : sum_by (one c) (take (i + 1) ts) ≡ sum_by (one c) (take i ts) + one c (slice_index_or ts i x) = sum_by_more (one c) ts i
        x (omega arith) in
        let b : sum_by (one c) (take (i + 1) ts) + one c (slice_index_or ts (i + 1) x) ≤ sum_by (one c) ts = sum_by_more_le (one c) ts
        (i + 1) x (omega arith) in
        let p : one c (slice_index_or ts i x) ≡ 1 = ap (one c) (get_or_from_slice_get ts i x x g) ∙ one_at c x e in
        let s : slice_index_or ts (i + 1) x ≡ y = ap (λ n. slice_index_or ts n x) (let z : i + 1 ≡ suc i = omega arith in z) ∙
        get_or_from_slice_get ts (suc i) y x h in
        let q : one c (slice_index_or ts (i + 1) x) ≡ 1 = ap (one c) s ∙ one_at c y refl in
        let o = once c in omega (arith, a, b, p, q, o)

    low_under : (n : ℕ) (t : Touched) → slice_get ts n ≡ Some t → low_of ts n ≤ t.cell
    low_under zero t g = omega arith
    low_under (suc i) t g =
        let x = get_exists ts i (let m = get_within ts (suc i) t g in omega (arith, m)) in
        let a = rises i (suc i) x.0 t (omega arith) x.1 g in
        let b = differ i x.0 t x.1 g in
        let e : low_of ts (suc i) ≡ suc x.0.cell = ap behind x.1 in omega (arith, a, b, e)

    low_over : (n k : ℕ) (u : Touched) → k < n → n ≤ length ts → slice_get ts k ≡ Some u → u.cell < low_of ts n
    low_over zero k u l m g = absurd (omega arith)
    low_over (suc i) k u l m g =
        let x = get_exists ts i (omega arith) in
        let a = rises k i u x.0 (omega arith) g x.1 in
        let e : low_of ts (suc i) ≡ suc x.0.cell = ap behind x.1 in omega (arith, a, e)

    none_between : (n c : ℕ) → n ≤ length ts → low_of ts n ≤ c → ((k : ℕ) (u : Touched) → n ≤ k → slice_get ts k ≡ Some u → c < u.cell)
        → is_wanted slots kept c ≡ false
    none_between n c m l h = ⊎_elim (λ (w : is_wanted slots kept c ≡ true). absurd (go w)) (λ f. f) (known (is_wanted slots kept c))
      where
        go : is_wanted slots kept c ≡ true → ⊥
        go w =
            let r = any_at c ts (found c w) in
            ⊎_elim (λ (b : r.0 < n). let a = low_over n r.0 r.1 b m r.2 in omega (arith, a, l, r.3))
            (λ (b : n ≤ r.0). let a = h r.0 r.1 b r.2 in omega (arith, a, r.3)) (cases_lt r.0 n)

    ascending : IsPlan slots kept ts
    ascending = (
      λ n t g. let f = fits n t g in (
        (
          low_under n t g,
          f.0,
          f.1,
          λ c l m. none_between n c (let b = get_within ts n t g in omega (arith, b)) l
              (λ k u b h. let a = rises n k t u b g h in omega (arith, a, m)),
        ),
        f.2,
        f.3,
      ),
      λ c l m. none_between (length ts) c (omega arith) l (λ k u b h. let a = get_within ts k u h in absurd (omega (arith, a, b))),
    )

-- ---- the plan of what is kept

module _ (places : List ℕ) (entries : List Entry) (ix : IsIndexed places entries) where
  abbrev seen : List Slot
  seen = slots_of places entries

  entry_matches : (k : ℕ) (e : Entry) → slice_get entries k ≡ Some e → Matches seen e
  entry_matches k e g =
      let at : slice_get seen e.cell ≡ Some (slot_at entries (suc k)) = slot_found places entries e.cell (suc k) (ix.each k e g) in
      let is : slice_get seen e.cell ≡ Some (slot_in (Some e)) = at ∙ ap (λ o. Some (slot_in o)) g in (
        get_within seen e.cell _ at,
        ap (λ (o : Option Slot). option_and_then (λ (s : Slot). s.word) o) is,
        ap (λ (o : Option Slot). option_and_then (λ (s : Slot). s.kept) o) is,
      )

  entries_apart : Apart seen entries
  entries_apart i j d e g h s =
      let p : Some (suc i) ≡ Some (suc j) = sym (ix.each i d g) ∙ (ap (slice_get places) s ∙ ix.each j e h) in
      let q : suc i ≡ suc j = cc in omega (arith, q)

  -- a cell that was read has an entry
  read_entry : (c : ℕ) → was_read seen c ≡ true → (k : ℕ) × (e : Entry) × (slice_get entries k ≡ Some e) × (e.cell ≡ c)
  read_entry c w = go (slice_get places c) refl
    where
      go : (o : Option ℕ) → slice_get places c ≡ o → (k : ℕ) × (e : Entry) × (slice_get entries k ≡ Some e) × (e.cell ≡ c)
      go None p =
          let a : false ≡ true = sym (ap (λ (o : Option Slot). is_some (option_and_then (λ (s : Slot). s.word) o))
          (slice_get-map (slot_at entries) places c ∙ ap (option_map (slot_at entries)) p)) ∙ w in absurd (cc)
      go (Some zero) p =
          let a : false ≡ true = sym (ap (λ (o : Option Slot). is_some (option_and_then (λ (s : Slot). s.word) o))
          (slot_found places entries c zero p)) ∙ w in absurd (cc)
      go (Some (suc k)) p = let d = ix.placed c k p in (k, d.0, d.1, d.2)

  picked_found : (kept : Bool) (c : ℕ) → is_wanted seen kept c ≡ true → list_any (λ t. t.cell == c) (picked kept entries) ≡ true
  picked_found kept c w =
      let r = read_entry c (both_left (was_read seen c) (if kept then is_some (value_kept seen c) else not (is_some (value_kept seen c)))
      w) in
      let m = entry_matches r.0 r.1 r.2 in
      let v : value_kept seen c ≡ r.1.kept = ap (value_kept seen) (sym r.3) ∙ m.2 in
      subst (λ n. list_any (λ t. t.cell == n) (picked kept entries) ≡ true) r.3
      (picked_any seen kept entries r.0 r.1 r.2
      (subst (λ (o : Option ℕ). (if kept then is_some o else not (is_some o)) ≡ true) v
      (both_right (was_read seen c) (if kept then is_some (value_kept seen c) else not (is_some (value_kept seen c))) w)))

  pub planned : (kept : Bool) (ts : List Touched) → IsPermutation (picked kept entries) ts → IsNonDecreasingBy (λ (t : Touched). t.cell)
      ts → IsPlan seen kept ts
  planned kept ts p up =
      ascending seen kept ts
      (λ k t g. subst (Fits seen kept) (get_or_from_slice_get ts k t t g)
      (All-permutation (Fits seen kept) (picked kept entries) ts p
      (λ k d l. let x = get_exists (picked kept entries) k l in
      subst (Fits seen kept) (sym (get_or_from_slice_get (picked kept entries) k x.0 d x.1))
      (picked_fit seen kept entries entry_matches k x.0 x.1))
      k t (get_within ts k t g)))
      (λ c w. sym (list_any-IsPermutation (λ t. t.cell == c) (picked kept entries) ts p) ∙ picked_found kept c w)
      (λ c. let a = sum_by-IsPermutation (one seen c) (picked kept entries) ts p in
      let b = picked_most seen kept entries entries_apart c in omega (arith, a, b))
      up

-- ---- how long a plan is

pub picked_length : (kept : Bool) (es : List Entry) → length (picked kept es) ≤ length es
picked_length kept [] = omega arith
picked_length kept (e ∷ es) = go (pick kept e e.kept) (short kept e e.kept) (picked_length kept es)
  where
    short : (kept : Bool) (e : Entry) (o : Option ℕ) → length (pick kept e o) ≤ 1
    short true e None = omega arith
    short true e (Some v) = omega arith
    short false e None = omega arith
    short false e (Some v) = omega arith

    go : (xs : List Touched) → length xs ≤ 1 → length (picked kept es) ≤ length es → length (xs ++ picked kept es) ≤ suc (length es)
    go xs a b = let c = length-append xs (picked kept es) in omega (arith, a, b, c)

pub picked_more : (kept : Bool) (es : List Entry) (e : Entry) → picked kept (es ++ e ∷ []) ≡ picked kept es ++ pick kept e e.kept
picked_more kept [] e = append-nil (pick kept e e.kept)
picked_more kept (d ∷ es) e =
    ap (λ ts. pick kept d d.kept ++ ts) (picked_more kept es e) ∙ sym
    (append_assoc (pick kept d d.kept) (picked kept es) (pick kept e e.kept))

pub picked_next : (kept : Bool) (es : List Entry) (n : ℕ) (d : Entry) → n < length es
    → picked kept (take (n + 1) es) ≡ picked kept (take n es) ++ pick kept (slice_index_or es n d) (slice_index_or es n d).kept
picked_next kept es n d l =
    ap (picked kept) (take_more es n d l) ∙ picked_more kept (take n es) (slice_index_or es n d)

-- ---- what is written, by the plan

pub plan_none : (slots : List Slot) (ts : List Touched) → IsPlan slots true ts → length ts ≡ 0 → NoneWanted slots true 0 (length slots)
plan_none slots ts p e = subst (λ n. NoneWanted slots true (low_of ts n) (length slots)) e p.1

pub plan_some : (slots : List Slot) (ts : List Touched) → IsPlan slots true ts → length ts ≢ 0 → writes_kept slots ≢ []
plan_some slots ts p n =
    let x = get_exists ts 0 (let a : length ts ≢ 0 = n in omega (arith, a)) in
    let s = p.0 0 x.0 x.1 in
    some_writes slots x.0.cell x.0.value s.0.1 (s.2 refl)

-- an entry is picked, or isn't
pub picked_here : (kept : Bool) (xs : List Touched) (e : Entry) (v : ℕ) → v ≡ unwrap_or e.kept 0 → beq (is_some e.kept) kept ≡ true
    → xs ++ record { cell = e.cell; word = e.word; value = v } ∷ [] ≡ xs ++ pick kept e e.kept
picked_here kept xs e v p s = go kept e.kept p s
  where
    go : (b : Bool) (o : Option ℕ) → v ≡ unwrap_or o 0 → beq (is_some o) b ≡ true
        → xs ++ record { cell = e.cell; word = e.word; value = v } ∷ [] ≡ xs ++ pick b e o
    go true None p s = absurd (cc)
    go true (Some w) p s = ap (λ (n : ℕ). xs ++ record { cell = e.cell; word = e.word; value = n } ∷ []) p
    go false None p s = ap (λ (n : ℕ). xs ++ record { cell = e.cell; word = e.word; value = n } ∷ []) p
    go false (Some w) p s = absurd (cc)

pub picked_else : (kept : Bool) (xs : List Touched) (e : Entry) → beq (is_some e.kept) kept ≡ false → xs ≡ xs ++ pick kept e e.kept
picked_else kept xs e s = go kept e.kept s
  where
    go : (b : Bool) (o : Option ℕ) → beq (is_some o) b ≡ false → xs ≡ xs ++ pick b e o
    go true None s = sym (append-nil xs)
    go true (Some w) s = absurd (cc)
    go false None s = absurd (cc)
    go false (Some w) s = sym (append-nil xs)
