-- A run over a text with comments is the walk over the tokens outside of them.
use Rattle.std.proofs.Common.{◌≡◌, Bool, true, false, cond, List, [], ◌∷◌, Option, Some, None, Result, Ok, Err, refl, sym, ap, subst, ◌∙◌}
use Rattle.std.proofs.Common.{inl, inr}
use Rattle.std.specs.Prelude.{codes, All, ◌<◌, length}
use Rattle.std.specs.Option.{option_map}
use Rattle.std.specs.Str.{bytes_eq}
use Rattle.std.proofs.lemmas.Bool.{cases_Bool, cond-true, cond-false}
use Rattle.std.proofs.lemmas.List.Elements.{All-head, All-tail}
use Rattle.mmtext.specs.declared.fault.FaultKind.TheVariants.{BadToken}
use Rattle.mmtext.specs.declared.fault.TextFault.{TextFault}
use Rattle.mmtext.specs.declared.mark.Mark.{Mark}
use Rattle.mmtext.specs.declared.mark.Mark.TheVariants as mark
use Rattle.mmtext.specs.Words.{has_dollar}
use Rattle.mmtext.specs.Text.{Token, dollar_mark, mark_of, has_comment_mark}
use Rattle.mmtext.specs.Words.{Word}
use Rattle.mmtext.specs.Comments.{words_of, without_comments}
use Rattle.mmtext.specs.Languages.{Language, State, fault, led, outside_comment, inside_comment, step, then_run, run}
pub use Rattle.mmtext.specs.Views.{state_at as here}
pub use Rattle.mmtext.proofs.Marks.{same_word}
use Rattle.mmtext.proofs.Marks.{Says, says}
use Rattle.mmtext.proofs.Readings.{run_step, run_none, run_nil, run_cons}

-- ---- walks

-- where tokens lead that all stand outside of comments
unfoldable pub walk : {P A : Type 0} → Language P A → P → List Token → Result P TextFault
walk l p [] = Ok p
walk l p (t ∷ ts) = then_run (l.row p t) (λ q. walk l q ts)

pub walk_ends : {P A : Type 0} (l : Language P A) (p : P) → walk l p [] ≡ Ok p
unfolding walk
walk_ends l p = refl

pub walk_none : {P A : Type 0} (l : Language P A) (p q : P) → walk l p [] ≡ Ok q → p ≡ q
unfolding walk
walk_none l p q h = cc

pub walk_step : {P A : Type 0} (l : Language P A) (p q : P) (t : Token) (ts : List Token) → l.row p t ≡ Ok q
    → walk l p (t ∷ ts) ≡ walk l q ts
unfolding walk
walk_step l p q t ts h = ap (λ r. then_run r (λ x. walk l x ts)) h

pub walk_cons : {P A : Type 0} (l : Language P A) (p final : P) (t : Token) (ts : List Token) → walk l p (t ∷ ts) ≡ Ok final
    → (q : P) × (l.row p t ≡ Ok q) × (walk l q ts ≡ Ok final)
unfolding walk
walk_cons {P} l p final t ts h = go (l.row p t) refl h
  where
    go : (r : Result P TextFault) → l.row p t ≡ r → then_run r (λ q. walk l q ts) ≡ Ok final
        → (q : P) × (l.row p t ≡ Ok q) × (walk l q ts ≡ Ok final)
    go (Ok q) e g = (q, e, g)
    go (Err f) e g = absurd cc

-- words at the front of tokens, before the words of the rest, and a walk from behind them
pub record ReadsOn {P A : Type 0} (l : Language P A) (before : List Word → List Word) (behind : P) (ts : List Token) (final : P)
    : Type 0 where
  pub rest : List Token
  pub parts : words_of ts ≡ before (words_of rest)
  pub walks : walk l behind rest ≡ Ok final
  pub shorter : length rest < length ts

-- ---- the marks of comments

comment_marks : (mark_of (codes "$(") ≡ mark.Comment) × (mark_of (codes "$)") ≡ mark.Uncomment)
unfolding mark_of
comment_marks = (refl, refl)

-- a word that neither opens or closes a comment nor includes a file
abbrev is_ordinary : Mark → Bool
is_ordinary mark.Comment = false
is_ordinary mark.Uncomment = false
is_ordinary mark.Include = false
is_ordinary mark.Included = false
is_ordinary _ = true

abbrev pub IsOrdinary : Word → Type 0
IsOrdinary w = is_ordinary (mark_of w) ≡ true

pub plain_is_ordinary : (w : Word) → has_dollar w ≡ false → IsOrdinary w
unfolding mark_of
plain_is_ordinary w h = ap (λ b. is_ordinary (cond b (dollar_mark w) mark.Plain)) h

-- ---- one token

opens : {P A : Type 0} (l : Language P A) (p : P) (t : Token) → t.text ≡ codes "$(" → step l (here p false) t ≡ Ok (here p true)
unfolding step
opens l p t e = ap (λ m. outside_comment p t m (l.row p t)) (ap mark_of e ∙ comment_marks.0)

closes : {P A : Type 0} (l : Language P A) (p : P) (t : Token) → t.text ≡ codes "$)" → step l (here p true) t ≡ Ok (here p false)
unfolding step
closes l p t e = ap (λ m. inside_comment p t m) (ap mark_of e ∙ comment_marks.1)

inside_is : {P : Type 0} (p : P) (t : Token) (m : Mark) → Says m t.text
    → bytes_eq t.text (codes "$)") ≡ false → inside_comment p t m ≡ cond (has_comment_mark t.text) (fault t BadToken) (Ok (here p true))
inside_is p t mark.Uncomment s n = absurd (let y : bytes_eq t.text (codes "$)") ≡ true = ap (λ w. bytes_eq w (codes "$)")) s in cc)
inside_is p t m s n = refl

-- in a comment, a word other than $)
stays : {P A : Type 0} (l : Language P A) (p : P) (t : Token)
    → bytes_eq t.text (codes "$)") ≡ false → step l (here p true) t ≡ cond (has_comment_mark t.text) (fault t BadToken) (Ok (here p true))
unfolding step
stays l p t n = inside_is p t (mark_of t.text) (says t.text) n

outside_is : {P : Type 0} (p : P) (t : Token) (m : Mark) (r : Result P TextFault) → is_ordinary m ≡ true → outside_comment p t m r ≡ led r
outside_is p t mark.Comment r h = absurd cc
outside_is p t mark.Uncomment r h = absurd cc
outside_is p t mark.Include r h = absurd cc
outside_is p t mark.Included r h = absurd cc
outside_is p t m r h = refl

-- outside of comments, an ordinary word
leads : {P A : Type 0} (l : Language P A) (p q : P) (t : Token) → IsOrdinary t.text → l.row p t ≡ Ok q
    → step l (here p false) t ≡ Ok (here q false)
unfolding step
leads l p q t ordinary h = outside_is p t (mark_of t.text) (l.row p t) ordinary ∙ ap led h

-- what the language decides where the step doesn't fail
led_ok : {P : Type 0} (r : Result P TextFault) (s : State P) → led r ≡ Ok s → (q : P) × (r ≡ Ok q) × (here q false ≡ s)
led_ok (Ok q) s h = (q, refl, cc)
led_ok (Err f) s h = absurd cc

outside_ok : {P : Type 0} (p : P) (t : Token) (m : Mark) (r : Result P TextFault) (s : State P) → Says m t.text
    → bytes_eq t.text (codes "$(") ≡ false → outside_comment p t m r ≡ Ok s → (q : P) × (r ≡ Ok q) × (here q false ≡ s)
outside_ok p t mark.Comment r s says n h =
    absurd (let y : bytes_eq t.text (codes "$(") ≡ true = ap (λ w. bytes_eq w (codes "$(")) says in cc)
outside_ok p t mark.Uncomment r s says n h = absurd cc
outside_ok p t mark.Include r s says n h = absurd cc
outside_ok p t mark.Included r s says n h = absurd cc
outside_ok p t m r s says n h = led_ok r s h

-- outside of comments, a word other than $( that breaks no test
led_on : {P A : Type 0} (l : Language P A) (p : P) (t : Token) (s : State P)
    → bytes_eq t.text (codes "$(") ≡ false → step l (here p false) t ≡ Ok s → (q : P) × (l.row p t ≡ Ok q) × (here q false ≡ s)
unfolding step
led_on l p t s n h = outside_ok p t (mark_of t.text) (l.row p t) s (says t.text) n h

-- a token leads to one state
one_state : {P A : Type 0} (l : Language P A) (s q r : State P) (t : Token) → step l s t ≡ Ok q → step l s t ≡ Ok r → q ≡ r
one_state l s q r t h g = let both = sym h ∙ g in cc

-- ---- words outside of comments

-- how without_comments goes on behind a word: an ordinary one, $(, $), and any other in a comment
outside_comments : (t : Word) (ws : List Word)
    → bytes_eq t (codes "$(") ≡ false → without_comments false (t ∷ ws) ≡ option_map (λ vs. t ∷ vs) (without_comments false ws)
outside_comments t ws n =
    cond-false (bytes_eq t (codes "$(")) (without_comments true ws) (option_map (λ vs. t ∷ vs) (without_comments false ws)) n

opened : (t : Word) (ws : List Word) → bytes_eq t (codes "$(") ≡ true → without_comments false (t ∷ ws) ≡ without_comments true ws
opened t ws y = cond-true (bytes_eq t (codes "$(")) (without_comments true ws) (option_map (λ vs. t ∷ vs) (without_comments false ws)) y

closed : (t : Word) (ws : List Word) → bytes_eq t (codes "$)") ≡ true → without_comments true (t ∷ ws) ≡ without_comments false ws
closed t ws y =
    cond-true (bytes_eq t (codes "$)")) (without_comments false ws) (cond (has_comment_mark t) None (without_comments true ws)) y

commented : (t : Word) (ws : List Word)
    → bytes_eq t (codes "$)") ≡ false → without_comments true (t ∷ ws) ≡ cond (has_comment_mark t) None (without_comments true ws)
commented t ws n =
    cond-false (bytes_eq t (codes "$)")) (without_comments false ws) (cond (has_comment_mark t) None (without_comments true ws)) n

passed : (t : Word) (ws : List Word)
    → bytes_eq t (codes "$)") ≡ false → has_comment_mark t ≡ false → without_comments true (t ∷ ws) ≡ without_comments true ws
passed t ws n m = commented t ws n ∙ cond-false (has_comment_mark t) None (without_comments true ws) m

-- ---- a run that ends well outside of comments is a walk over the tokens outside of them

-- tokens outside of the comments of ts, of which one is open at the start where c says so; they lead from p to q
pub record WalksOutside {P A : Type 0} (l : Language P A) (c : Bool) (p q : P) (ts : List Token) : Type 0 where
  pub kept : List Token
  pub words_are : without_comments c (words_of ts) ≡ Some (words_of kept)
  pub walks : walk l p kept ≡ Ok q

cond_fault : {P : Type 0} (b : Bool) (t : Token) (s q : State P) → cond b (fault t BadToken) (Ok s) ≡ Ok q → (b ≡ false) × (s ≡ q)
cond_fault true t s q h = absurd cc
cond_fault false t s q h = (refl, cc)

pub walks_outside : {P A : Type 0} (l : Language P A) (c : Bool) (p q : P) (ts : List Token) → run l (here p c) ts ≡ Ok (here q false)
    → WalksOutside l c p q ts
walks_outside {P} l false p q [] h =
    record {
      kept = [];
      words_are = refl;
      walks = walk_ends l p ∙ ap (λ (s : State P). Ok s.place) (run_nil l (here p false) (here q false) h);
    }
walks_outside {P} l true p q [] h =
    absurd (let same : true ≡ false = ap (λ (s : State P). s.in_comment) (run_nil l (here p true) (here q false) h) in cc)
walks_outside l false p q (t ∷ ts) h =
    let r = run_cons l (here p false) (here q false) t ts h in
    elim (cases_Bool (bytes_eq t.text (codes "$("))) [
      | inl y ↦
          let e = one_state l (here p false) (here p true) r.0 t (opens l p t (same_word t.text (codes "$(") y)) r.1 in
          let o = walks_outside l true p q ts (subst (λ s. run l s ts ≡ Ok (here q false)) (sym e) r.2) in
          record { kept = o.kept; words_are = opened t.text (words_of ts) y ∙ o.words_are; walks = o.walks }
      | inr n ↦
          let d = led_on l p t r.0 n r.1 in
          let o = walks_outside l false d.0 q ts (subst (λ s. run l s ts ≡ Ok (here q false)) (sym d.2) r.2) in
          record {
            kept = t ∷ o.kept;
            words_are = outside_comments t.text (words_of ts) n ∙ ap (option_map (λ vs. t.text ∷ vs)) o.words_are;
            walks = walk_step l p d.0 t o.kept d.1 ∙ o.walks;
          }
    ]
walks_outside l true p q (t ∷ ts) h =
    let r = run_cons l (here p true) (here q false) t ts h in
    elim (cases_Bool (bytes_eq t.text (codes "$)"))) [
      | inl y ↦
          let e = one_state l (here p true) (here p false) r.0 t (closes l p t (same_word t.text (codes "$)") y)) r.1 in
          let o = walks_outside l false p q ts (subst (λ s. run l s ts ≡ Ok (here q false)) (sym e) r.2) in
          record { kept = o.kept; words_are = closed t.text (words_of ts) y ∙ o.words_are; walks = o.walks }
      | inr n ↦
          let d = cond_fault (has_comment_mark t.text) t (here p true) r.0 (sym (stays l p t n) ∙ r.1) in
          let o = walks_outside l true p q ts (subst (λ s. run l s ts ≡ Ok (here q false)) (sym d.1) r.2) in
          record { kept = o.kept; words_are = passed t.text (words_of ts) n d.0 ∙ o.words_are; walks = o.walks }
    ]

-- ---- a walk over tokens with the words outside of comments is a run over all

-- tokens of these words, such that where they lead, ts leads
pub record RunsAll {P A : Type 0} (l : Language P A) (c : Bool) (ts : List Token) (ws : List Word) : Type 0 where
  pub kept : List Token
  pub words_are : words_of kept ≡ ws
  pub runs : (p q : P) → walk l p kept ≡ Ok q → run l (here p c) ts ≡ Ok (here q false)

split_some : (v : Word) (o : Option (List Word)) (ws : List Word) → option_map (λ vs. v ∷ vs) o ≡ Some ws
    → (vs : List Word) × (o ≡ Some vs) × (v ∷ vs ≡ ws)
split_some v None ws h = absurd cc
split_some v (Some vs) ws h = (vs, refl, cc)

pub runs_all : {P A : Type 0} (l : Language P A) (c : Bool) (ts : List Token) (ws : List Word) → All IsOrdinary ws
    → without_comments c (words_of ts) ≡ Some ws → RunsAll l c ts ws
runs_all l false [] ws o h =
    record { kept = []; words_are = cc; runs = λ p q e. run_none l (here p false) ∙ ap (λ x. Ok (here x false)) (walk_none l p q e) }
runs_all l true [] ws o h = absurd cc
runs_all l false (t ∷ ts) ws o h = elim (cases_Bool (bytes_eq t.text (codes "$("))) [
  | inl y ↦
      let r = runs_all l true ts ws o (sym (opened t.text (words_of ts) y) ∙ h) in
      record {
        kept = r.kept;
        words_are = r.words_are;
        runs = λ p q e. run_step l (here p false) (here p true) t ts (opens l p t (same_word t.text (codes "$(") y)) ∙ r.runs p q e;
      }
  | inr n ↦
      let s = split_some t.text (without_comments false (words_of ts)) ws (sym (outside_comments t.text (words_of ts) n) ∙ h) in
      let each : All IsOrdinary (t.text ∷ s.0) = subst (λ vs. All IsOrdinary vs) (sym s.2) o in
      let r = runs_all l false ts s.0 (All-tail IsOrdinary t.text s.0 each) s.1 in
      record {
        kept = t ∷ r.kept;
        words_are = ap (λ vs. t.text ∷ vs) r.words_are ∙ s.2;
        runs = λ p q e.
            let w = walk_cons l p q t r.kept e in
            run_step l (here p false) (here w.0 false) t ts (leads l p w.0 t (All-head IsOrdinary t.text s.0 each) w.1) ∙ r.runs w.0 q w.2;
      }
]
runs_all l true (t ∷ ts) ws o h = elim (cases_Bool (bytes_eq t.text (codes "$)"))) [
  | inl y ↦
      let r = runs_all l false ts ws o (sym (closed t.text (words_of ts) y) ∙ h) in
      record {
        kept = r.kept;
        words_are = r.words_are;
        runs = λ p q e. run_step l (here p true) (here p false) t ts (closes l p t (same_word t.text (codes "$)") y)) ∙ r.runs p q e;
      }
  | inr n ↦ elim (cases_Bool (has_comment_mark t.text)) [
    | inl y ↦
        let bad = commented t.text (words_of ts) n ∙ cond-true (has_comment_mark t.text) None (without_comments true (words_of ts)) y in
        absurd (let none : None ≡ Some ws = sym bad ∙ h in cc)
    | inr m ↦
        let r = runs_all l true ts ws o (sym (passed t.text (words_of ts) n m) ∙ h) in
        record {
          kept = r.kept;
          words_are = r.words_are;
          runs =
              λ p q e. run_step l (here p true) (here p true) t ts
              (stays l p t n ∙ cond-false (has_comment_mark t.text) (fault t BadToken) (Ok (here p true)) m)
              ∙ r.runs p q e;
        }
  ]
]
