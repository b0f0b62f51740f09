-- Words that lead from a place to another, whatever the places of their tokens in the text: one behind the other, and lists of them.
use Rattle.std.proofs.Common.{◌≡◌, true, List, [], ◌∷◌, ◌++◌, Ok, refl, sym, ap, subst, ◌∙◌, append_assoc, append-nil}
use Rattle.std.proofs.lemmas.Bool.{and_parts}
use Rattle.mmtext.specs.Words.{Word}
use Rattle.mmtext.specs.Text.{Token}
use Rattle.mmtext.specs.Comments.{words_of}
use Rattle.walks.proofs.Walks.{walk, walk_ends, walk_none, walk_step, walk_cons}
use Rattle.mmsyntax.specs.Rows.{Tests}
use Rattle.source.specs.Scopes.{Scope}
use Rattle.source.specs.Tests.{passes, all_pass}
use Rattle.source.specs.Faults.{Place, at_start, Position, row, source_language}

-- ---- positions

abbrev pub there : Scope → List Scope → Place → Position
there s around place = record { stand = record { scope = s; around = around }; place = place }

-- between statements
abbrev pub home : Scope → List Scope → Position
home s around = there s around at_start

-- ---- words

-- tokens of these words lead from p to q
abbrev pub Leads : Position → List Word → Position → Type 0
Leads p ws q = (ts : List Token) → words_of ts ≡ ws → walk source_language p ts ≡ Ok q

pub no_word : (p : Position) → Leads p [] p
no_word p [] h = walk_ends source_language p
no_word p (t ∷ ts) h = absurd cc

-- a word, then others
pub word_leads : (p q r : Position) (w : Word) (ws : List Word) → ((t : Token) → t.text ≡ w → row p t ≡ Ok q) → Leads q ws r
    → Leads p (w ∷ ws) r
word_leads p q r w ws is next [] h = absurd cc
word_leads p q r w ws is next (t ∷ ts) h =
    let text_is : t.text ≡ w = cc in
    let rest_is : words_of ts ≡ ws = cc in
    walk_step source_language p q t ts (is t text_is) ∙ next ts rest_is

-- a word alone
pub one_word : (p q : Position) (w : Word) → ((t : Token) → t.text ≡ w → row p t ≡ Ok q) → Leads p (w ∷ []) q
one_word p q w is = word_leads p q q w [] is (no_word q)

-- a word of which the token is kept until the next word
pub two_words : (p r : Position) (q : Token → Position) (m : Position) (w v : Word) (ws : List Word)
    → ((t : Token) → t.text ≡ w → row p t ≡ Ok (q t)) → ((t u : Token) → t.text ≡ w → u.text ≡ v → row (q t) u ≡ Ok m) → Leads m ws r
    → Leads p (w ∷ v ∷ ws) r
two_words p r q m w v ws first second next [] h = absurd cc
two_words p r q m w v ws first second next (t ∷ ts) h =
    let text_is : t.text ≡ w = cc in
    let rest_is : words_of ts ≡ v ∷ ws = cc in
    walk_step source_language p (q t) t ts (first t text_is)
    ∙ word_leads (q t) m r v ws (λ u e. second t u text_is e) next ts rest_is

-- ---- words behind words

walk_append : (p q : Position) (us ts : List Token) → walk source_language p us ≡ Ok q
    → walk source_language p (us ++ ts) ≡ walk source_language q ts
walk_append p q [] ts h = ap (λ x. walk source_language x ts) (walk_none source_language p q h)
walk_append p q (u ∷ us) ts h =
    let r = walk_cons source_language p q u us h in
    walk_step source_language p r.0 u (us ++ ts) r.1 ∙ walk_append r.0 q us ts r.2

-- tokens of which the first have these words, and the others those
record Split (ts : List Token) (ws vs : List Word) : Type 0 where
  first : List Token
  others : List Token
  whole : ts ≡ first ++ others
  first_are : words_of first ≡ ws
  others_are : words_of others ≡ vs

split : (ts : List Token) (ws vs : List Word) → words_of ts ≡ ws ++ vs → Split ts ws vs
split ts [] vs h = record { first = []; others = ts; whole = refl; first_are = refl; others_are = h }
split [] (w ∷ ws) vs h = absurd cc
split (t ∷ ts) (w ∷ ws) vs h =
    let text_is : t.text ≡ w = cc in
    let rest_is : words_of ts ≡ ws ++ vs = cc in
    let o = split ts ws vs rest_is in
    record {
      first = t ∷ o.first;
      others = o.others;
      whole = ap (λ x. t ∷ x) o.whole;
      first_are = ap (λ x. x ∷ words_of o.first) text_is ∙ ap (λ x. w ∷ x) o.first_are;
      others_are = o.others_are;
    }

pub words_lead : (p q r : Position) (ws vs : List Word) → Leads p ws q → Leads q vs r → Leads p (ws ++ vs) r
words_lead p q r ws vs one next ts h =
    let o = split ts ws vs h in
    ap (walk source_language p) o.whole ∙ walk_append p q o.first o.others (one o.first o.first_are) ∙ next o.others o.others_are

-- ---- words that pass their tests one behind the other, where each leads from behind the earlier ones to behind them and itself

pub each_leads : (at : List Word → Position) (tests : List Word → Word → Tests)
    → ((front : List Word) (t : Token) → passes (tests front t.text) ≡ true → row (at front) t ≡ Ok (at (front ++ t.text ∷ [])))
    → (front ws : List Word) → all_pass tests front ws ≡ true → Leads (at front) ws (at (front ++ ws))
each_leads at tests one front [] h = subst (λ x. Leads (at front) [] (at x)) (sym (append-nil front)) (no_word (at front))
each_leads at tests one front (w ∷ ws) h =
    let both = and_parts (passes (tests front w)) (all_pass tests (front ++ w ∷ []) ws) h in
    word_leads (at front) (at (front ++ w ∷ [])) (at (front ++ w ∷ ws)) w ws
    (λ t e. one front t (ap (λ x. passes (tests front x)) e ∙ both.0) ∙ ap (λ x. Ok (at (front ++ x ∷ []))) e)
    (subst (λ x. Leads (at (front ++ w ∷ [])) ws (at x)) (append_assoc front (w ∷ []) ws)
    (each_leads at tests one (front ++ w ∷ []) ws both.1))
