-- The languages of databases and of single units against the grammar: what they say is what the text spells, both ways.
use Rattle.std.proofs.Common.{◌≡◌, ℕ, Bool, true, false, cond, List, [], ◌∷◌, ◌++◌, length, Option, Some, None, Result, Ok}
use Rattle.std.proofs.Common.{Err, refl, sym, ap, ◌∙◌, append-nil}
use Rattle.std.specs.Prelude.{is_some}
use Rattle.std.proofs.lemmas.Bool.{cond-false}
use Rattle.mmsyntax.specs.declared.statement.Assertion.{Assertion}
use Rattle.mmtext.specs.declared.fault.FaultKind.TheVariants.{BadToken}
use Rattle.mmtext.specs.declared.fault.TextFault.{TextFault}
use Rattle.mmtext.specs.Text.{Token, tokens, IsClean}
use Rattle.mmtext.specs.Comments.{words_of, without_comments}
use Rattle.mmsyntax.specs.Tables.{Tables}
use Rattle.mmsyntax.specs.Blocks.{Block, no_block}
use Rattle.mmtext.specs.Languages.{Language, State, fault, run, said_at, finished, ended, token_reading}
use Rattle.mmtext.specs.Laws.{IsGrammarOf}
use Rattle.mmsyntax.specs.Rows.{Known, prelude_alone, in_prelude}
use Rattle.mmsyntax.specs.Faults.{outside, inside, Place, at_start, Position, row}
use Rattle.mmsyntax.specs.Faults.{first_of, unit_at, unit_language}
use Rattle.mmsyntax.specs.Grammar.{Piece, distinct, hypothesis, Statement, constants, variables, float, alone, block, spelling}
use Rattle.mmsyntax.specs.Grammar.{HoldAll, Declares, DeclareUnit, SpellsUnit}
use Rattle.walks.proofs.Walks.{here, walk, walk_ends, walk_none, walk_cons, walks_outside, runs_all}
use Rattle.statementreader.proofs.Ordinary.{statement_ordinary}
use Rattle.statementreader.proofs.Leading.{there, home, IsInner, GoesOnInside}
use Rattle.statementreader.proofs.LeadingStatements.{statement_leads}
use Rattle.statementreader.proofs.Parsed.{StaysWithin}
use Rattle.statementreader.proofs.ParsedStatements.{reads_statement}

-- ---- what is spelled is read

-- within its statement, a unit isn't finished
unit_inside : (k : Known) (p : Place) → IsInner p → unit_at k p ≡ None
unit_inside k (at_start outside) i = absurd i
unit_inside k (at_start (inside b)) i = refl
unit_inside k p i = refl

unit_goes_on : (t : Tables) → GoesOnInside (unit_language t)
unit_goes_on t k p i u q h =
    cond-false (is_some (unit_at k p)) (fault u BadToken) (row (there k p) u) (ap is_some (unit_inside k p i)) ∙ h

nothing_more : (t : Tables) (p : Position) (rest : List Token) → words_of rest ≡ [] → walk (unit_language t) p rest ≡ Ok p
nothing_more t p [] h = walk_ends (unit_language t) p
nothing_more t p (u ∷ us) h = absurd cc

-- the words of a statement lead from the start of a unit behind it
pub unit_leads : (t : Tables) (s : Statement) (known : Known) (ts : List Token) → Declares (prelude_alone t) s known
    → words_of ts ≡ spelling s → walk (unit_language t) (home (prelude_alone t)) ts ≡ Ok (home known)
unit_leads t s known ts d h =
    statement_leads (unit_language t) (unit_goes_on t) (prelude_alone t) (λ u q g. g) s known ts [] (Ok (home known)) d
    (h ∙ sym (append-nil (spelling s))) (nothing_more t (home known))

unit_token_spelled : (t : Tables) (bytes : List ℕ) (a : Assertion) → SpellsUnit t bytes a → token_reading (unit_language t) bytes ≡ Ok a
unfolding token_reading
unit_token_spelled t bytes a s =
    let l = unit_language t in
    let k = prelude_alone t in
    let u = s.unit in
    let r = runs_all l false (tokens bytes) (spelling u.statement) (statement_ordinary k u.statement u.known u.declared)
    (s.words_are ∙ ap (λ ws. Some ws) u.parts) in
    let w = unit_leads t u.statement u.known r.kept u.declared r.words_are in
    ap (ended l (length bytes)) (r.runs (home k) (home u.known) w) ∙ ap (λ xs. finished (length bytes) (first_of xs)) u.single

-- ---- what is read is spelled

finished_ok : {A : Type 0} (len : ℕ) (o : Option A) (a : A) → finished len o ≡ Ok a → o ≡ Some a
finished_ok len None a h = absurd cc
finished_ok len (Some b) a h = let e : b ≡ a = cc in ap (λ x. Some x) e

said_ok : {P A : Type 0} (l : Language P A) (s : State P) (a : A) → said_at l s ≡ Some a
    → (s.in_comment ≡ false) × (l.said s.place ≡ Some a)
said_ok l s a h = go s.in_comment refl h
  where
    go : (c : Bool) → s.in_comment ≡ c → cond c None (l.said s.place) ≡ Some a → (s.in_comment ≡ false) × (l.said s.place ≡ Some a)
    go true e g = absurd cc
    go false e g = (e, g)

-- a reading that ends well is a run to a place where a text may end
pub ended_ok : {P A : Type 0} (l : Language P A) (len : ℕ) (r : Result (State P) TextFault) (a : A) → ended l len r ≡ Ok a
    → (p : P) × (r ≡ Ok (here p false)) × (l.said p ≡ Some a)
ended_ok l len (Err f) a h = absurd cc
ended_ok l len (Ok s) a h =
    let o = said_ok l s a (finished_ok len (said_at l s) a h) in (s.place, ap (λ c. Ok (here s.place c)) o.0, o.1)

unit_ok : (k : Known) (p : Place) (a : Assertion) → unit_at k p ≡ Some a → (p ≡ at_start outside) × (first_of k.units.assertions ≡ Some a)
unit_ok k (at_start outside) a h = (refl, h)
unit_ok k (at_start (inside b)) a h = absurd cc
unit_ok k p a h = absurd cc

pub cond_fault : (b : Bool) (u : Token) (r : Result Position TextFault) (q : Position) → cond b (fault u BadToken) r ≡ Ok q
    → (b ≡ false) × (r ≡ Ok q)
cond_fault true u r q h = absurd cc
cond_fault false u r q h = (refl, h)

unit_stays : (t : Tables) → StaysWithin (unit_language t)
unit_stays t p q u h = (cond_fault (is_some (unit_at p.known p.place)) u (row p u) q h).1

-- pieces of a block add no assertion
holds_none : (ps : List Piece) (k : Known) (b : Block) (next : Known) (held : Block) → HoldAll k b ps next held
    → next.units.assertions ≡ k.units.assertions
holds_none [] k b next held d = ap (λ (x : Known). x.units.assertions) (sym d.0)
holds_none (distinct ws ∷ ps) k b next held d =
    holds_none ps d.0 d.1 next held d.3 ∙ ap (λ (x : Known). x.units.assertions) (sym d.2.0)
holds_none (hypothesis w ws ∷ ps) k b next held d =
    holds_none ps d.0 d.1 next held d.3 ∙ ap (λ (x : Known). x.units.assertions) (sym d.2.3.2)

-- behind a closed prelude a statement declares an assertion
declares_one : (k after : Known) (s : Statement) → in_prelude k ≡ false → k.units.assertions ≡ [] → Declares k s after
    → (a : Assertion) × (after.units.assertions ≡ a ∷ [])
declares_one k after (constants ws) closed none d = absurd (let y : in_prelude k ≡ true = d.0 in let e = sym y ∙ closed in cc)
declares_one k after (variables ws) closed none d = absurd (let y : in_prelude k ≡ true = d.0 in let e = sym y ∙ closed in cc)
declares_one k after (float w c v) closed none d = absurd (let y : in_prelude k ≡ true = d.0 in let e = sym y ∙ closed in cc)
declares_one k after (alone c) closed none d =
    (d.0, ap (λ (x : Known). x.units.assertions) (sym d.2) ∙ ap (λ xs. xs ++ d.0 ∷ []) none)
declares_one k after (block ps c) closed none d = (
  d.2,
  ap (λ (x : Known). x.units.assertions) (sym d.5)
      ∙ ap (λ xs. xs ++ d.2 ∷ []) (holds_none ps k no_block d.0 d.1 d.3 ∙ none),
)

-- behind the unit a walk is at its end
pub unit_ends : (t : Tables) (q final : Position) (b : Assertion) (rest : List Token) → unit_at q.known q.place ≡ Some b
    → walk (unit_language t) q rest ≡ Ok final → (rest ≡ []) × (q ≡ final)
unit_ends t q final b [] some h = (refl, walk_none (unit_language t) q final h)
unit_ends t q final b (u ∷ us) some h =
    let r = walk_cons (unit_language t) q final u us h in
    let none = (cond_fault (is_some (unit_at q.known q.place)) u (row q u) r.0 r.1).0 in
    absurd (let e : is_some (Some b) ≡ false = ap is_some (sym some) ∙ none in cc)

-- tokens that lead from the start of a unit behind it
pub unit_parsed : (t : Tables) (a : Assertion) (ts : List Token) (final : Position) → unit_at final.known final.place ≡ Some a
    → walk (unit_language t) (home (prelude_alone t)) ts ≡ Ok final → DeclareUnit t (words_of ts) a
unit_parsed t a [] final said h =
    absurd
    (let same = walk_none (unit_language t) (home (prelude_alone t)) final h in
    let e : None ≡ Some a = ap (λ (p : Position). unit_at p.known p.place) same ∙ said in
    cc)
unit_parsed t a (u ∷ us) final said h =
    let at_end = unit_ok final.known final.place a said in
    let r = reads_statement (unit_language t) (unit_stays t) final at_end.0 (prelude_alone t) u us h in
    let one = declares_one (prelude_alone t) r.after r.statement refl refl r.declared in
    let ends = unit_ends t (home r.after) final one.0 r.on.rest (ap first_of one.1) r.on.walks in
    let last : first_of r.after.units.assertions ≡ Some a = ap (λ (p : Position). first_of p.known.units.assertions) ends.1 ∙ at_end.1 in
    let some_is : Some one.0 ≡ Some a = ap first_of (sym one.1) ∙ last in
    let same : one.0 ≡ a = cc in
    record {
      statement = r.statement;
      parts = r.on.parts ∙ ap (λ x. spelling r.statement ++ words_of x) ends.0 ∙ append-nil (spelling r.statement);
      known = r.after;
      declared = r.declared;
      single = one.1 ∙ ap (λ x. x ∷ []) same;
    }

unit_walk_found : (t : Tables) (bytes : List ℕ) (a : Assertion) (kept : List Token) (final : Position) → IsClean bytes
    → without_comments false (words_of (tokens bytes)) ≡ Some (words_of kept) → unit_at final.known final.place ≡ Some a
    → walk (unit_language t) (home (prelude_alone t)) kept ≡ Ok final → SpellsUnit t bytes a
unit_walk_found t bytes a kept final clean words_are said h =
    record { clean = clean; words = words_of kept; words_are = words_are; unit = unit_parsed t a kept final said h }

unit_token_found : (t : Tables) (bytes : List ℕ) (a : Assertion) → IsClean bytes → token_reading (unit_language t) bytes ≡ Ok a
    → SpellsUnit t bytes a
unfolding token_reading
unit_token_found t bytes a clean h =
    let l = unit_language t in
    let start = home (prelude_alone t) in
    let f = ended_ok l (length bytes) (run l (here start false) (tokens bytes)) a h in
    let o = walks_outside l false start f.0 (tokens bytes) f.1 in
    unit_walk_found t bytes a o.kept f.0 clean o.words_are f.2 o.walks

-- what a text spells as an assertion over a prelude is what the language of single assertions says
pub unit_grammar : (t : Tables) → IsGrammarOf (unit_language t) (SpellsUnit t)
unit_grammar t bytes a = (λ s. (s.clean, unit_token_spelled t bytes a s), λ h. unit_token_found t bytes a h.0 h.1)
