-- What a step leads to, on a stack of which the counts are known.
use Rattle.std.proofs.Common.{◌≡◌, ℕ, zero, suc, ◌-◌, ◌<◌, ◌≤◌, Bool, true, false, List, [], ◌∷◌, length, get_or, refl, sym, ap}
use Rattle.std.proofs.Common.{subst, ◌∙◌, inl, inr, arith}
use Rattle.std.specs.Prelude.{Option, Some, None, find, nat_le, if◌then◌else◌}
use Rattle.std.specs.Option.{option_map}
use Rattle.std.specs.List.{list_any}
use Rattle.std.specs.Str.{bytes_eq}
use mathlib.Core.Bool.{not}
use Rattle.std.proofs.lemmas.Bool.{cases_Bool, cases_lt, le-leb, lt-leb, cond-true, cond-false}
use Rattle.std.proofs.lemmas.Option.{some_pair_parts, slice_get-get_or, slice_get_past}
use Rattle.mmtext.specs.Words.{Word}
use Rattle.source.specs.declared.entries.Citation.{Citation}
use Rattle.source.specs.declared.entries.Citation.TheVariants as citation
use Rattle.source.specs.declared.entries.Entries.{Entries}
use Rattle.source.specs.Scopes.{Hypothesis, label_of, Assertion}
use Rattle.source.specs.Proofs.{Step, names, again, unknown, numbered, taken_by, may_be_marked, is_placed}
use Rattle.source.specs.Proofs.{Stack, pop, put, cite, repeat, stepped, there}
use Rattle.source.specs.Counts.{counts, citation_of, HaveCitations, IsStep}

-- ---- entries come off

pop_few : (hs : List Hypothesis) (xs off : List (Unit {0})) → length xs < length hs → pop hs xs off ≡ None
pop_few [] xs off lt = absurd (omega arith)
pop_few (h ∷ hs) [] off lt = refl
pop_few (h ∷ hs) (x ∷ xs) off lt = pop_few hs xs (x ∷ off) (omega arith)

pop_many : (hs : List Hypothesis) (xs off : List (Unit {0})) → length hs ≤ length xs
    → (p : List (Unit {0}) × List (Unit {0})) × (pop hs xs off ≡ Some p) × (length p.1 ≡ length xs - length hs)
pop_many [] xs off le = ((off, xs), refl, omega arith)
pop_many (h ∷ hs) [] off le = absurd (omega arith)
pop_many (h ∷ hs) (x ∷ xs) off le =
    let rest = pop_many hs xs (x ∷ off) (omega arith) in
    (rest.0, rest.1, omega (arith, rest.2))

-- what a step leads to that takes so many of so many
abbrev taken : ℕ → ℕ → ℕ → Option (ℕ × ℕ)
taken k n m = if nat_le k n then Some (suc (n - k), m) else None

cited : (w : Word) (s : Stack (Unit {0})) (hs : Option (List Hypothesis)) (k : ℕ) → option_map length hs ≡ Some k
    → counts (cite there w s hs) ≡ taken k (length s.entries) (length s.marked)
cited w s None k e = absurd cc
cited w s (Some hs) k e =
    let k-is : length hs ≡ k = cc in
    let n = length s.entries in
    let at_k = ap (λ j. taken j n (length s.marked)) k-is in
    elim (cases_lt n (length hs)) [
      | inl lt ↦
          ap (λ p. counts (put there w s.marked p)) (pop_few hs s.entries [] lt)
          ∙ ap (λ b. if b then Some (suc (n - length hs), length s.marked) else None) (sym (lt-leb (length hs) n lt))
          ∙ at_k
      | inr le ↦
          let rest = pop_many hs s.entries [] le in
          ap (λ p. counts (put there w s.marked p)) rest.1
          ∙ ap (λ i. Some (suc i, length s.marked)) rest.2
          ∙ ap (λ b. if b then Some (suc (n - length hs), length s.marked) else None) (sym (le-leb (length hs) n le))
          ∙ at_k
    ]

-- none is there always
pub always : (n : ℕ) → nat_le 0 n ≡ true
always n = le-leb 0 n (omega arith)

-- an entry goes on
put_one : (n m : ℕ) → Some (suc n, m) ≡ taken 0 n m
put_one n m =
    ap (λ b. if b then Some (suc n, m) else None) (sym (always n))
    ∙ ap (λ i. if nat_le 0 n then Some (suc i, m) else None) (let e : n ≡ n - 0 = omega arith in e)

-- ---- what the code says of its counts

-- an entry in place of so many, if they are there
abbrev pub Puts : ℕ → Bool → Entries → Entries → Bool → Type 0
Puts k markable old new goes =
    (goes ≡ nat_le k old.entries)
    × (new ≡ (if goes then record old { entries = suc (old.entries - k); is_markable = markable } else old))

outcome : (k n m : ℕ) (markable : Bool) (old new : Entries) (goes : Bool) → n ≡ old.entries → m ≡ old.marked
    → Puts k markable old new goes → taken k n m ≡ (if goes then Some (new.entries, new.marked) else None)
outcome k n m markable old new true n-is m-is puts =
    ap (λ i. taken k i m) n-is
    ∙ ap (λ b. if b then Some (suc (old.entries - k), m) else None) (sym puts.0)
    ∙ ap (λ j. Some (suc (old.entries - k), j)) m-is
    ∙ ap (λ (c : Entries). Some (c.entries, c.marked)) (sym puts.1)
outcome k n m markable old new false n-is m-is puts =
    ap (λ i. taken k i m) n-is ∙ ap (λ b. if b then Some (suc (old.entries - k), m) else None) (sym puts.0)

same_front : (k : ℕ) (markable : Bool) (old new : Entries) (goes : Bool) → Puts k markable old new goes → new.front ≡ old.front
same_front k markable old new true puts = ap (λ (c : Entries). c.front) puts.1
same_front k markable old new false puts = ap (λ (c : Entries). c.front) puts.1

now_markable : (k : ℕ) (markable : Bool) (old new : Entries) (goes : Bool) → Puts k markable old new goes → goes ≡ true
    → new.is_markable ≡ markable
now_markable k markable old new true puts go = ap (λ (c : Entries). c.is_markable) puts.1
now_markable k markable old new false puts go = absurd cc

-- ---- what labels name

no_assertion : (o : Option Assertion)
    → option_map (λ (a : Assertion). citation.Assertion (length a.hypotheses)) o ≡ Some citation.Hypothesis → ⊥
no_assertion None e = absurd cc
no_assertion (Some a) e = absurd cc

some_assertion : (o : Option Assertion) (k : ℕ)
    → option_map (λ (a : Assertion). citation.Assertion (length a.hypotheses)) o ≡ Some (citation.Assertion k)
    → option_map length (option_map (λ (a : Assertion). a.hypotheses) o) ≡ Some k
some_assertion None k e = absurd cc
some_assertion (Some a) k e = cc

module _ (earlier : List Assertion) (active : List Hypothesis) where
  is_active : Word → Bool
  is_active w = list_any (λ h. bytes_eq w (label_of h)) active

  assertion_at : Word → Option Assertion
  assertion_at w = find (λ (a : Assertion). bytes_eq w a.label) earlier

  hypothesis_named : (w : Word) → citation_of earlier active w ≡ Some citation.Hypothesis
      → (option_map length (taken_by earlier active w) ≡ Some 0) × (may_be_marked active (names w) ≡ false)
  unfolding is_active assertion_at
  hypothesis_named w e = elim (cases_Bool (is_active w)) [
    | inl is ↦ (ap (option_map length) (cond-true (is_active w) (Some []) _ is), ap not is)
    | inr other ↦ absurd (no_assertion (assertion_at w) (sym (cond-false (is_active w) (Some citation.Hypothesis) _ other) ∙ e))
  ]

  assertion_named : (w : Word) (k : ℕ) → citation_of earlier active w ≡ Some (citation.Assertion k)
      → (option_map length (taken_by earlier active w) ≡ Some k) × (may_be_marked active (names w) ≡ true)
  unfolding is_active assertion_at
  assertion_named w k e = elim (cases_Bool (is_active w)) [
    | inl is ↦
        let clash : Some citation.Hypothesis ≡ Some (citation.Assertion k) = sym (cond-true (is_active w) _ _ is) ∙ e in
        absurd cc
    | inr other ↦ (
      ap (option_map length) (cond-false (is_active w) (Some []) _ other)
          ∙ some_assertion (assertion_at w) k (sym (cond-false (is_active w) (Some citation.Hypothesis) _ other) ∙ e),
      ap not other,
    )
  ]

  -- ---- steps that put an entry in place of others

  put_step : (x : Step) (k : ℕ) (markable : Bool) (old new : Entries) (goes : Bool)
      → ((s : Stack (Unit {0})) → counts (Some s) ≡ Some (old.entries, old.marked)
      → counts (stepped there earlier active s x) ≡ taken k (length s.entries) (length s.marked))
      → is_placed old.is_markable x ≡ true → may_be_marked active x ≡ markable → Puts k markable old new goes
      → IsStep earlier active x old new goes
  put_step x k markable old new goes steps placed kind puts =
      record {
        leads = λ s c.
            let both = some_pair_parts _ _ _ _ c in
            ap (λ b. counts (if b then stepped there earlier active s x else None)) placed
            ∙ steps s c ∙ outcome k (length s.entries) (length s.marked) markable old new goes both.0 both.1 puts;
        markable = λ go. now_markable k markable old new goes puts go ∙ sym kind;
        front = same_front k markable old new goes puts;
      }

  -- the label of a hypothesis
  pub hypothesis_step : (w : Word) (old new : Entries) (goes : Bool) → citation_of earlier active w ≡ Some citation.Hypothesis
      → Puts 0 false old new goes → IsStep earlier active (names w) old new goes
  hypothesis_step w old new goes e puts =
      let named = hypothesis_named w e in
      put_step (names w) 0 false old new goes (λ s c. cited w s (taken_by earlier active w) 0 named.0) refl named.1 puts

  -- the label of an assertion
  pub assertion_step : (w : Word) (k : ℕ) (old new : Entries) (goes : Bool) → citation_of earlier active w ≡ Some (citation.Assertion k)
      → Puts k true old new goes → IsStep earlier active (names w) old new goes
  assertion_step w k old new goes e puts =
      let named = assertion_named w k e in
      put_step (names w) k true old new goes (λ s c. cited w s (taken_by earlier active w) k named.0) refl named.1 puts

  -- a step that isn't there
  pub unknown_step : (old new : Entries) (goes : Bool) → Puts 0 false old new goes → IsStep earlier active unknown old new goes
  unknown_step old new goes puts =
      put_step unknown 0 false old new goes (λ s c. put_one (length s.entries) (length s.marked)) refl refl puts

  -- ---- a marked subproof

  pub again_step : (n : ℕ) (old new : Entries) (goes : Bool) → n < old.marked → Puts 0 false old new goes
      → IsStep earlier active (again n) old new goes
  again_step n old new goes lt puts =
      put_step (again n) 0 false old new goes
      (λ s c.
      ap (λ x. counts (repeat s x))
      (slice_get-get_or s.marked n tt (let both = some_pair_parts _ _ _ _ c in omega (arith, both.1)))
      ∙ put_one (length s.entries) (length s.marked)) refl refl puts

  pub absent_step : (n : ℕ) (old : Entries) → old.marked ≤ n → IsStep earlier active (again n) old old false
  absent_step n old le =
      record {
        leads = λ s c.
            let both = some_pair_parts _ _ _ _ c in
            ap (λ x. counts (repeat s x)) (slice_get_past s.marked n (omega (arith, both.1)));
        markable = λ go. absurd cc;
        front = refl;
      }

  -- ---- a number

  -- of a label of which it is known what it names
  numbered_at : (ws : List Word) (cs : List Citation) (i : ℕ) → HaveCitations earlier active ws cs → i < length cs
      → (w : Word) × (numbered ws i ≡ names w) × (citation_of earlier active w ≡ Some (get_or cs i citation.Hypothesis))
  numbered_at [] [] i e lt = absurd (omega arith)
  numbered_at [] (c ∷ cs) i e lt = absurd cc
  numbered_at (w ∷ ws) [] i e lt = absurd cc
  numbered_at (w ∷ ws) (c ∷ cs) zero e lt = (w, refl, cc)
  numbered_at (w ∷ ws) (c ∷ cs) (suc i) e lt = numbered_at ws cs i (cc) (omega arith)

  -- behind the labels
  numbered_past : (ws : List Word) (cs : List Citation) (i : ℕ) → HaveCitations earlier active ws cs → length cs ≤ i
      → numbered ws i ≡ again (i - length cs)
  numbered_past [] [] i e le = ap again (let same : i ≡ i - 0 = omega arith in same)
  numbered_past [] (c ∷ cs) i e le = absurd cc
  numbered_past (w ∷ ws) [] i e le = absurd cc
  numbered_past (w ∷ ws) (c ∷ cs) zero e le = absurd (omega arith)
  numbered_past (w ∷ ws) (c ∷ cs) (suc i) e le =
      let same : i - length cs ≡ suc i - suc (length cs) = omega arith in
      numbered_past ws cs i (cc) (omega arith) ∙ ap again same

  pub label_step : (ws : List Word) (cs : List Citation) (i : ℕ) (c : Citation) (old new : Entries) (goes : Bool)
      → HaveCitations earlier active ws cs → i < length cs → c ≡ get_or cs i citation.Hypothesis
      → ((w : Word) → citation_of earlier active w ≡ Some c → IsStep earlier active (names w) old new goes)
      → IsStep earlier active (numbered ws i) old new goes
  label_step ws cs i c old new goes e lt c-is step =
      let at = numbered_at ws cs i e lt in
      subst (λ x. IsStep earlier active x old new goes) (sym at.1) (step at.0 (at.2 ∙ ap (λ x. Some x) (sym c-is)))

  pub marked_step : (ws : List Word) (cs : List Citation) (i n : ℕ) (old new : Entries) (goes : Bool) → HaveCitations earlier active ws cs
      → length cs ≤ i → n ≡ i - length cs → IsStep earlier active (again n) old new goes
      → IsStep earlier active (numbered ws i) old new goes
  marked_step ws cs i n old new goes e le n-is step =
      subst (λ x. IsStep earlier active x old new goes) (ap again n-is ∙ sym (numbered_past ws cs i e le)) step
