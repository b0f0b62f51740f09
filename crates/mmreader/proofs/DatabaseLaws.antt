-- The language of databases against the grammar: what it says is what the text spells, both ways.
use Rattle.std.proofs.Common.{◌≡◌, ℕ, suc, false, List, length, Some, Ok, ap, ◌∙◌, arith, refl}
use Rattle.std.specs.List.{flat_map}
use Rattle.mmtext.specs.Text.{Token, tokens, IsClean}
use Rattle.mmtext.specs.Comments.{words_of, without_comments}
use Rattle.mmsyntax.specs.Tables.{Contents}
use Rattle.mmtext.specs.Languages.{run, ended, token_reading}
use Rattle.mmtext.specs.Laws.{IsGrammarOf}
use Rattle.mmsyntax.specs.Rows.{Known, nothing}
use Rattle.mmsyntax.specs.Faults.{outside, inside, Place, at_start, Position, database_of, whole, database_language}
use Rattle.mmsyntax.specs.Grammar.{spelling, Spells}
use Rattle.walks.proofs.Walks.{here, walk, walks_outside, runs_all}
use Rattle.statementreader.proofs.Ordinary.{statements_ordinary}
use Rattle.statementreader.proofs.Leading.{home}
use Rattle.statementreader.proofs.LeadingStatements.{statements_lead}
use Rattle.statementreader.proofs.ParsedStatements.{reads_all}
use Rattle.statementreader.proofs.UnitLaws.{ended_ok}

-- ---- what is spelled is read

database_token_spelled : (bytes : List ℕ) (db : Contents) → Spells bytes db → token_reading database_language bytes ≡ Ok db
unfolding token_reading
database_token_spelled bytes db s =
    let l = database_language in
    let r = runs_all l false (tokens bytes) (flat_map spelling s.statements) (statements_ordinary nothing s.statements s.known s.declared)
    s.words_are in
    let w = statements_lead l (λ k p i t q h. h) (λ k t q h. h) s.statements nothing s.known r.kept s.declared r.words_are in
    ap (ended l (length bytes)) (r.runs (home nothing) (home s.known) w) ∙ ap (λ d. Ok d) s.whole

-- ---- what is read is spelled

whole_ok : (k : Known) (p : Place) (db : Contents) → whole k p ≡ Some db → (p ≡ at_start outside) × (database_of k ≡ db)
whole_ok k (at_start outside) db h = (refl, cc)
whole_ok k (at_start (inside b)) db h = absurd cc
whole_ok k p db h = absurd cc

database_walk_found : (bytes : List ℕ) (db : Contents) (kept : List Token) (final : Position) → IsClean bytes
    → without_comments false (words_of (tokens bytes)) ≡ Some (words_of kept) → whole final.known final.place ≡ Some db
    → walk database_language (home nothing) kept ≡ Ok final → Spells bytes db
database_walk_found bytes db kept final clean words_are said h =
    let w = whole_ok final.known final.place db said in
    let r = reads_all database_language (λ p q t g. g) final w.0 (suc (length kept)) nothing kept (omega arith) h in
    record {
      clean = clean;
      statements = r.statements;
      words_are = words_are ∙ ap (λ ws. Some ws) r.parts;
      known = final.known;
      declared = r.declared;
      whole = w.1;
    }

database_token_found : (bytes : List ℕ) (db : Contents) → IsClean bytes → token_reading database_language bytes ≡ Ok db → Spells bytes db
unfolding token_reading
database_token_found bytes db clean h =
    let l = database_language in
    let f = ended_ok l (length bytes) (run l (here (home nothing) false) (tokens bytes)) db h in
    let o = walks_outside l false (home nothing) f.0 (tokens bytes) f.1 in
    database_walk_found bytes db o.kept f.0 clean o.words_are f.2 o.walks

-- what a text spells as a database is what the language of databases says
pub database_grammar : IsGrammarOf database_language Spells
database_grammar bytes db = (λ s. (s.clean, database_token_spelled bytes db s), λ h. database_token_found bytes db h.0 h.1)
