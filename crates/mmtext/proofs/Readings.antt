-- Reading a text against the relation of its faults, in any language with comments.
use Rattle.std.proofs.Common.{
  ◌≡◌,
  ℕ,
  zero,
  suc,
  ◌+◌,
  ◌<◌,
  ◌≤◌,
  Bool,
  true,
  false,
  cond,
  List,
  [],
  ◌∷◌,
  ◌++◌,
  length,
  get_or,
  Option,
  Some,
  None,
  Result,
  Ok,
  Err,
  refl,
  sym,
  ap,
  ◌∙◌,
  ◌⊎◌,
  inl,
  inr,
  arith,
  ltb,
}
use Rattle.std.specs.Prelude.{slice_index}
use Rattle.std.specs.List.{position_or_len}
use Rattle.std.proofs.lemmas.Bool.{cases_Bool, cond-true, cond-false, ltb-true, ltb-false, le-ltb, lt-ltb, not-true, not-false}
use Rattle.std.proofs.lemmas.List.Quantifiers.{position-Some}
use Rattle.std.proofs.lemmas.List.Sums.{position_or_len_is}
use mathlib.Core.Bool.{not}
use Rattle.mmtext.specs.declared.fault.FaultKind.TheVariants.{TooLong, Unfinished}
use Rattle.mmtext.specs.declared.fault.TextFault.{TextFault}
use Rattle.mmtext.specs.Text.{Token, tokens, is_lawful, IsCleanBefore, IsClean, bad_byte}
use Rattle.mmtext.specs.Languages.{
  Language,
  State,
  step,
  then_run,
  run,
  start_of,
  said_at,
  finished,
  ended,
  token_reading,
  without_bad_byte,
  reading,
  Faulty,
  too_long,
  bad,
  at_token,
  unfinished,
}

-- ---- runs

pub run_step : {P A : Type 0} (l : Language P A) (s q : State P) (t : Token) (ts : List Token) → step l s t ≡ Ok q
    → run l s (t ∷ ts) ≡ run l q ts
unfolding run
run_step l s q t ts h = ap (λ r. then_run r (λ x. run l x ts)) h

pub run_fault : {P A : Type 0} (l : Language P A) (s : State P) (t : Token) (ts : List Token) (f : TextFault) → step l s t ≡ Err f
    → run l s (t ∷ ts) ≡ Err f
unfolding run
run_fault l s t ts f h = ap (λ r. then_run r (λ x. run l x ts)) h

pub run_none : {P A : Type 0} (l : Language P A) (s : State P) → run l s [] ≡ Ok s
unfolding run
run_none l s = refl

pub run_nil : {P A : Type 0} (l : Language P A) (s final : State P) → run l s [] ≡ Ok final → s ≡ final
unfolding run
run_nil l s final h = cc

-- a run that ends well, by its first token
pub run_cons : {P A : Type 0} (l : Language P A) (s final : State P) (t : Token) (ts : List Token) → run l s (t ∷ ts) ≡ Ok final
    → (q : State P) × (step l s t ≡ Ok q) × (run l q ts ≡ Ok final)
unfolding run
run_cons {P} l s final t ts h = go (step l s t) refl h
  where
    go : (r : Result (State P) TextFault) → step l s t ≡ r → then_run r (λ q. run l q ts) ≡ Ok final
        → (q : State P) × (step l s t ≡ Ok q) × (run l q ts ≡ Ok final)
    go (Ok q) e g = (q, e, g)
    go (Err f) e g = absurd cc

pub goes_on : {P A : Type 0} (l : Language P A) (s q : State P) (t : Token) (ts us : List Token) (all : Result (State P) TextFault)
    → us ≡ t ∷ ts → step l s t ≡ Ok q → run l s us ≡ all → run l q ts ≡ all
goes_on l s q t ts us all e h g = sym (ap (run l s) e ∙ run_step l s q t ts h) ∙ g

-- ---- the end of a text

pub ends_here : {P A : Type 0} (l : Language P A) (text : List ℕ) (s : State P) (ts : List Token) → ts ≡ []
    → run l s ts ≡ run l (start_of l) (tokens text) → token_reading l text ≡ finished (length text) (said_at l s)
unfolding token_reading
ends_here l text s ts none same = ap (ended l (length text)) (sym same ∙ ap (run l s) none ∙ run_none l s)

pub stops_here : {P A : Type 0} (l : Language P A) (text : List ℕ) (s : State P) (t : Token) (ts us : List Token) (f : TextFault)
    → us ≡ t ∷ ts → step l s t ≡ Err f → run l s us ≡ run l (start_of l) (tokens text) → token_reading l text ≡ Err f
unfolding token_reading
stops_here l text s t ts us f is h same = ap (ended l (length text)) (sym same ∙ ap (run l s) is ∙ run_fault l s t ts f h)

-- ---- bytes

bad_found : (bytes : List ℕ) (i : ℕ) → bad_byte bytes ≡ Some i
    → (i < length bytes) × (is_lawful (slice_index bytes i) ≡ false) × IsCleanBefore i bytes
bad_found bytes i h =
    let p = position-Some (λ b. not (is_lawful b)) bytes i 0 h in
    (p.0, not-true (is_lawful (get_or bytes i 0)) p.1, λ k lt. not-false (is_lawful (get_or bytes k 0)) (p.2 k lt))

none_after : (p : ℕ → Bool) (xs : List ℕ) → length xs ≤ position_or_len p xs → (k : ℕ) → k < length xs → p (get_or xs k 0) ≡ false
none_after p [] h k lt = absurd (omega arith)
none_after p (x ∷ xs) h k lt = elim (cases_Bool (p x)) [
  | inl y ↦ absurd (let z : position_or_len p (x ∷ xs) ≡ 0 = ap (λ b. cond (not b) (1 + position_or_len p xs) 0) y in omega arith)
  | inr n ↦ let z : position_or_len p (x ∷ xs) ≡ 1 + position_or_len p xs = ap
      (λ b. cond (not b) (1 + position_or_len p xs) 0) n in none_at p x xs n (none_after p xs (omega arith)) k lt
]
  where
    none_at : (p : ℕ → Bool) (x : ℕ) (xs : List ℕ) → p x ≡ false → ((k : ℕ) → k < length xs → p (get_or xs k 0) ≡ false) → (k : ℕ)
        → k < suc (length xs) → p (get_or (x ∷ xs) k 0) ≡ false
    none_at p x xs n later zero lt = n
    none_at p x xs n later (suc k) lt = later k (omega arith)

clean_from_none : (bytes : List ℕ) → bad_byte bytes ≡ None → IsClean bytes
clean_from_none bytes h = λ k lt.
    let p : ℕ → Bool = λ b. not (is_lawful b) in
    let past : length bytes ≤ position_or_len p bytes = elim (cases_Bool (ltb (position_or_len p bytes) (length bytes))) [
      | inl y ↦ absurd (let e : Some (position_or_len p bytes) ≡ None = sym (cond-true _ (Some (position_or_len p bytes)) None y) ∙ h in cc)
      | inr n ↦ ltb-false _ _ n
    ] in
    not-false (is_lawful (get_or bytes k 0)) (none_after p bytes past k lt)

pub none_from_clean : (bytes : List ℕ) → IsClean bytes → bad_byte bytes ≡ None
none_from_clean bytes clean =
    go (bad_byte bytes) refl
  where
    go : (o : Option ℕ) → bad_byte bytes ≡ o → bad_byte bytes ≡ None
    go None e = e
    go (Some i) e =
        let b = bad_found bytes i e in
        let y : is_lawful (slice_index bytes i) ≡ true = clean i b.0 in
        let n : is_lawful (slice_index bytes i) ≡ false = b.1 in
        absurd cc

bad_at : (bytes : List ℕ) (i : ℕ) → i < length bytes → IsCleanBefore i bytes → is_lawful (slice_index bytes i) ≡ false
    → bad_byte bytes ≡ Some i
bad_at bytes i lt before here =
    let p : ℕ → Bool = λ b. not (is_lawful b) in
    let at : position_or_len p bytes ≡ i = position_or_len_is p bytes i 0 (omega arith) (λ k less. ap not (before k less))
    (λ _. ap not here) in
    cond-true (ltb (position_or_len p bytes) (length bytes)) (Some (position_or_len p bytes)) None (lt-ltb _ _ (omega arith))
    ∙ ap (λ n. Some n) at

-- ---- what reading gives, by the length of a text and its bytes

too_long_reading : {P A : Type 0} (l : Language P A) (bytes : List ℕ) → l.most_bytes < length bytes
    → reading l bytes ≡ Err (record { place = l.most_bytes; kind = TooLong })
unfolding reading
too_long_reading l bytes long =
    cond-true (ltb l.most_bytes (length bytes)) (Err (record { place = l.most_bytes; kind = TooLong }))
    (without_bad_byte (bad_byte bytes) (token_reading l bytes)) (lt-ltb _ _ long)

short_reading : {P A : Type 0} (l : Language P A) (bytes : List ℕ) → length bytes ≤ l.most_bytes
    → reading l bytes ≡ without_bad_byte (bad_byte bytes) (token_reading l bytes)
unfolding reading
short_reading l bytes short =
    cond-false (ltb l.most_bytes (length bytes)) (Err (record { place = l.most_bytes; kind = TooLong }))
    (without_bad_byte (bad_byte bytes) (token_reading l bytes)) (le-ltb _ _ short)

pub clean_reading : {P A : Type 0} (l : Language P A) (bytes : List ℕ) → length bytes ≤ l.most_bytes → IsClean bytes
    → reading l bytes ≡ token_reading l bytes
clean_reading l bytes short clean =
    short_reading l bytes short ∙ ap (λ o. without_bad_byte o (token_reading l bytes)) (none_from_clean bytes clean)

-- a text that says something has lawful bytes, and its tokens say it
pub reading_ok : {P A : Type 0} (l : Language P A) (bytes : List ℕ) (a : A) → reading l bytes ≡ Ok a
    → IsClean bytes × (token_reading l bytes ≡ Ok a)
reading_ok {P} {A} l bytes a h =
    elim (cases_Bool (ltb l.most_bytes (length bytes))) [
      | inl y ↦ absurd
          (let e : Err (record { place = l.most_bytes; kind = TooLong }) ≡ Ok a = sym (too_long_reading l bytes (ltb-true _ _ y)) ∙ h in cc)
      | inr n ↦ by_bytes (bad_byte bytes) refl (sym (short_reading l bytes (ltb-false _ _ n)) ∙ h)
    ]
  where
    by_bytes : (o : Option ℕ) → bad_byte bytes ≡ o → without_bad_byte o (token_reading l bytes) ≡ Ok a
        → IsClean bytes × (token_reading l bytes ≡ Ok a)
    by_bytes (Some i) e g = absurd cc
    by_bytes None e g = (clean_from_none bytes e, g)

-- ---- faults

-- the token at which a run fails, behind the front that it reaches
record FailsAt {P A : Type 0} (l : Language P A) (s : State P) (ts : List Token) (f : TextFault) : Type 0 where
  front : List Token
  rest : List Token
  token : Token
  there : State P
  parts : ts ≡ front ++ token ∷ rest
  reaches : run l s front ≡ Ok there
  breaks : step l there token ≡ Err f

run_split : {P A : Type 0} (l : Language P A) (s : State P) (t : Token) (ts : List Token) (f : TextFault) (r : Result (State P) TextFault)
    → step l s t ≡ r → then_run r (λ q. run l q ts) ≡ Err f → ((q : State P) → run l q ts ≡ Err f → FailsAt l q ts f)
    → FailsAt l s (t ∷ ts) f
run_split l s t ts f (Ok q) e h later =
    let o = later q h in
    record {
      front = t ∷ o.front;
      rest = o.rest;
      token = o.token;
      there = o.there;
      parts = ap (λ us. t ∷ us) o.parts;
      reaches = run_step l s q t o.front e ∙ o.reaches;
      breaks = o.breaks;
    }
run_split l s t ts f (Err g) e h later =
    record { front = []; rest = ts; token = t; there = s; parts = refl; reaches = run_none l s; breaks = e ∙ h }

fails_at : {P A : Type 0} (l : Language P A) (s : State P) (ts : List Token) (f : TextFault) → run l s ts ≡ Err f → FailsAt l s ts f
unfolding run
fails_at l s [] f h = absurd cc
fails_at l s (t ∷ ts) f h = run_split l s t ts f (step l s t) refl h (λ q g. fails_at l q ts f g)

finished_fault : {A : Type 0} (len : ℕ) (o : Option A) (f : TextFault) → finished len o ≡ Err f
    → (o ≡ None) × (f ≡ record { place = len; kind = Unfinished })
finished_fault len None f h = (refl, cc)
finished_fault len (Some a) f h = absurd cc

ended_fault : {P A : Type 0} (l : Language P A) (len : ℕ) (r : Result (State P) TextFault) (f : TextFault) → ended l len r ≡ Err f
    → (r ≡ Err f) ⊎ ((s : State P) × (r ≡ Ok s) × (said_at l s ≡ None) × (f ≡ record { place = len; kind = Unfinished }))
ended_fault l len (Err g) f h = inl cc
ended_fault l len (Ok s) f h = let e = finished_fault len (said_at l s) f h in inr (s, refl, e.0, e.1)

token_fault : {P A : Type 0} (l : Language P A) (bytes : List ℕ) (f : TextFault) → length bytes ≤ l.most_bytes → IsClean bytes
    → token_reading l bytes ≡ Err f → Faulty l bytes f
unfolding token_reading
token_fault l bytes f short clean h =
    elim (ended_fault l (length bytes) (run l (start_of l) (tokens bytes)) f h) [
      | inl r ↦ let o =
          fails_at l (start_of l) (tokens bytes) f r in at_token o.front o.rest o.token o.there short clean o.parts o.reaches o.breaks
      | inr u ↦ unfinished u.0 short clean u.1 u.2 u.3
    ]

-- why a text is not read is a fault of it
pub reading_fault : {P A : Type 0} (l : Language P A) (bytes : List ℕ) (f : TextFault) → reading l bytes ≡ Err f → Faulty l bytes f
reading_fault {P} {A} l bytes f h =
    elim (cases_Bool (ltb l.most_bytes (length bytes))) [
      | inl y ↦ let long : l.most_bytes < length bytes = ltb-true _ _ y in too_long long
          (let e : Err (record { place = l.most_bytes; kind = TooLong }) ≡ Err f = sym (too_long_reading l bytes long) ∙ h in cc)
      | inr n ↦ let short : length bytes ≤ l.most_bytes = ltb-false _ _ n in bytes_fault short (bad_byte bytes) refl
          (sym (short_reading l bytes short) ∙ h)
    ]
  where
    bytes_fault : length bytes ≤ l.most_bytes → (o : Option ℕ) → bad_byte bytes ≡ o → without_bad_byte o (token_reading l bytes) ≡ Err f
        → Faulty l bytes f
    bytes_fault short (Some i) e g = let b = bad_found bytes i e in bad i short b.0 b.2 b.1 cc
    bytes_fault short None e g = token_fault l bytes f short (clean_from_none bytes e) g

run_front : {P A : Type 0} (l : Language P A) (front rest : List Token) (s there : State P) (t : Token) (f : TextFault)
    → run l s front ≡ Ok there → step l there t ≡ Err f → run l s (front ++ t ∷ rest) ≡ Err f
unfolding run
run_front l [] rest s there t f h b =
    let same : s ≡ there = cc in
    ap (λ q. then_run (step l q t) (λ r. run l r rest)) same ∙ ap (λ r. then_run r (λ q. run l q rest)) b
run_front {P} l (u ∷ front) rest s there t f h b = onward (step l s u) refl h (λ q g. run_front l front rest q there t f g b)
  where
    onward : (r : Result (State P) TextFault) → step l s u ≡ r → then_run r (λ q. run l q front) ≡ Ok there
        → ((q : State P) → run l q front ≡ Ok there → run l q (front ++ t ∷ rest) ≡ Err f)
        → then_run (step l s u) (λ q. run l q (front ++ t ∷ rest)) ≡ Err f
    onward (Ok q) e g later = ap (λ r. then_run r (λ q. run l q (front ++ t ∷ rest))) e ∙ later q g
    onward (Err d) e g later = absurd cc

run_failed : {P A : Type 0} (l : Language P A) (bytes : List ℕ) (f : TextFault) → run l (start_of l) (tokens bytes) ≡ Err f
    → token_reading l bytes ≡ Err f
unfolding token_reading
run_failed l bytes f h = ap (ended l (length bytes)) h

run_unfinished : {P A : Type 0} (l : Language P A) (bytes : List ℕ) (s : State P) → run l (start_of l) (tokens bytes) ≡ Ok s
    → said_at l s ≡ None → token_reading l bytes ≡ Err (record { place = length bytes; kind = Unfinished })
unfolding token_reading
run_unfinished l bytes s h none = ap (ended l (length bytes)) h ∙ ap (finished (length bytes)) none

-- a text with a fault is not read, and for no other reason
pub fault_only : {P A : Type 0} (l : Language P A) (bytes : List ℕ) (f : TextFault) → Faulty l bytes f → reading l bytes ≡ Err f
fault_only l bytes f (too_long long is) = too_long_reading l bytes long ∙ ap (λ d. Err d) (sym is)
fault_only l bytes f (bad place short lt before here is) =
    short_reading l bytes short ∙ ap (λ o. without_bad_byte o (token_reading l bytes)) (bad_at bytes place lt before here)
    ∙ ap (λ d. Err d) (sym is)
fault_only l bytes f (at_token front rest t s short clean parts reaches breaks) =
    clean_reading l bytes short clean
    ∙ run_failed l bytes f (ap (run l (start_of l)) parts ∙ run_front l front rest (start_of l) s t f reaches breaks)
fault_only l bytes f (unfinished s short clean reaches none is) =
    clean_reading l bytes short clean ∙ run_unfinished l bytes s reaches none ∙ ap (λ d. Err d) (sym is)

pub not_both : {P A : Type 0} (l : Language P A) (bytes : List ℕ) (f : TextFault) (a : A) → Faulty l bytes f → reading l bytes ≡ Ok a → ⊥
not_both l bytes f a faulty h = let e : Err f ≡ Ok a = sym (fault_only l bytes f faulty) ∙ h in absurd cc

pub same_fault : {P A : Type 0} (l : Language P A) (bytes : List ℕ) (f g : TextFault) → Faulty l bytes f → reading l bytes ≡ Err g → g ≡ f
same_fault l bytes f g faulty h = let e : Err f ≡ Err g = sym (fault_only l bytes f faulty) ∙ h in cc
