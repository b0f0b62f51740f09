-- The table of faults against the grammar of sources: what the table says is what the text declares, both ways.
use Rattle.std.proofs.Common.{◌≡◌, ℕ, suc, Bool, true, false, cond, List, [], ◌∷◌, ◌++◌, length, Option, Some, None, Result, Ok, Err}
use Rattle.std.proofs.Common.{refl, ap, ◌∙◌, arith, append-nil}
use Rattle.mmtext.specs.declared.fault.TextFault.{TextFault}
use Rattle.mmtext.specs.Text.{Token, tokens, IsClean}
use Rattle.mmtext.specs.Comments.{words_of, without_comments}
use Rattle.mmtext.specs.Languages.{State, run, finished, ended, token_reading}
use Rattle.mmtext.specs.Laws.{IsGrammarOf}
use Rattle.walks.proofs.Walks.{here, walk, walks_outside, runs_all}
use Rattle.source.specs.Statements.{spellings}
use Rattle.source.specs.Scopes.{Scope, Stand, nothing, behind_all}
use Rattle.source.specs.Sources.{DeclaresText}
use Rattle.source.specs.Faults.{Place, at_start, Position, whole_in, whole, source_language}
use Rattle.source.proofs.Ordinary.{statements_ordinary}
use Rattle.source.proofs.Leading.{home}
use Rattle.source.proofs.LeadingStatements.{statements_lead}
use Rattle.source.proofs.ParsedStatements.{Ends, reads_all}

-- ---- what is declared is said

declared_said : (bytes : List ℕ) (s : Scope) → DeclaresText bytes s → token_reading source_language bytes ≡ Ok s
unfolding token_reading
declared_said bytes s d =
    let l = source_language in
    let ss = d.statements in
    let r = runs_all l false (tokens bytes) (spellings ss) (statements_ordinary nothing ss d.declared.lawful) d.words_are in
    let last = home (behind_all nothing ss) [] in
    let w = statements_lead nothing refl [] ss d.declared.lawful r.kept r.words_are in
    ap (ended l (length bytes)) (r.runs (home nothing []) last w) ∙ ap (λ x. Ok x) d.declared.declared

-- ---- what is said is declared

-- a text ends between statements, with no block open
record EndsWhole (final : Position) (s : Scope) : Type 0 where
  between : final.place ≡ at_start
  closed : final.stand.around ≡ []
  scope_is : final.stand.scope ≡ s

whole_in_ok : (x : Scope) (around : List Scope) (s : Scope) → whole_in x around ≡ Some s → (around ≡ []) × (x ≡ s)
whole_in_ok x [] s h = (refl, cc)
whole_in_ok x (before ∷ around) s h = absurd cc

whole_ok : (stand : Stand) (place : Place) (s : Scope) → whole stand place ≡ Some s
    → (place ≡ at_start) × (stand.around ≡ []) × (stand.scope ≡ s)
whole_ok stand at_start s h = let o = whole_in_ok stand.scope stand.around s h in (refl, o.0, o.1)
whole_ok stand place s h = absurd cc

-- a reading that ends well ends there, outside of comments
said_whole : (len : ℕ) (c : Bool) (final : Position) (o : Option Scope) (s : Scope) → whole final.stand final.place ≡ o
    → finished len (cond c None o) ≡ Ok s → (c ≡ false) × EndsWhole final s
said_whole len true final o s is h = absurd cc
said_whole len false final None s is h = absurd cc
said_whole len false final (Some x) s is h =
    let same : x ≡ s = cc in
    let w = whole_ok final.stand final.place s (is ∙ ap (λ y. Some y) same) in
    (refl, record { between = w.0; closed = w.1; scope_is = w.2 })

ended_whole : (len : ℕ) (r : Result (State Position) TextFault) (s : Scope) → ended source_language len r ≡ Ok s
    → (final : Position) × (r ≡ Ok (here final false)) × EndsWhole final s
ended_whole len (Err f) s h = absurd cc
ended_whole len (Ok state) s h =
    let o = said_whole len state.in_comment state.place (whole state.place.stand state.place.place) s refl h in
    (state.place, ap (λ c. Ok (here state.place c)) o.0, o.1)

walk_declares : (bytes : List ℕ) (s : Scope) (kept : List Token) (final : Position) → IsClean bytes
    → without_comments false (words_of (tokens bytes)) ≡ Some (words_of kept) → EndsWhole final s
    → walk source_language (home nothing []) kept ≡ Ok final → DeclaresText bytes s
walk_declares bytes s kept final clean words_are end h =
    let r = reads_all final end.between end.closed (suc (length kept)) nothing [] kept (omega arith) h in
    let ends : Ends [] (behind_all nothing r.statements) r.rest final = r.ends in
    let words : words_of kept ≡ spellings r.statements =
    r.parts ∙ ap (λ ts. spellings r.statements ++ words_of ts) ends.0 ∙ append-nil (spellings r.statements) in
    record {
      clean = clean;
      statements = r.statements;
      words_are = words_are ∙ ap (λ ws. Some ws) words;
      declared = record { lawful = r.lawful; declared = ap (λ (p : Position). p.stand.scope) ends.1 ∙ end.scope_is };
    }

said_declared : (bytes : List ℕ) (s : Scope) → IsClean bytes → token_reading source_language bytes ≡ Ok s → DeclaresText bytes s
unfolding token_reading
said_declared bytes s clean h =
    let l = source_language in
    let f = ended_whole (length bytes) (run l (here (home nothing []) false) (tokens bytes)) s h in
    let o = walks_outside l false (home nothing []) f.0 (tokens bytes) f.1 in
    walk_declares bytes s o.kept f.0 clean o.words_are f.2 o.walks

-- what a text declares is what the language of sources says
pub source_grammar : IsGrammarOf source_language DeclaresText
source_grammar bytes s = (λ d. (d.clean, declared_said bytes s d), λ h. said_declared bytes s h.0 h.1)
