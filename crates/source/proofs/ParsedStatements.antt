-- Tokens that lead from between statements to the end of a text have the words of lawful statements, block in block.
use Rattle.std.proofs.Common.{◌≡◌, ℕ, zero, suc, ◌<◌, ◌≤◌, true, false, List, [], ◌∷◌, ◌++◌, length, Ok, refl, sym, ap, subst, ◌∙◌, arith}
use Rattle.std.proofs.Common.{append_assoc}
use Rattle.std.specs.Prelude.{codes}
use Rattle.std.proofs.lemmas.Bool.{and_from}
use Rattle.mmtext.specs.Words.{Word, is_label}
use Rattle.mmtext.specs.Text.{Token}
use Rattle.mmtext.specs.Comments.{words_of}
use Rattle.walks.proofs.Walks.{walk, walk_none, walk_cons, ReadsOn}
use Rattle.source.specs.Statements.{Statement, constants, variables, float, hypothesis, distinct, asserted, proved, block, Statements, none}
use Rattle.source.specs.Statements.{some, proof_spelling, spelling, spellings}
use Rattle.source.specs.Scopes.{Scope, enter, leave, behind, behind_all}
use Rattle.source.specs.Tests.{passes, label_tests, constant_tests, variable_tests, type_tests, float_tests, distinct_tests, symbol_tests}
use Rattle.source.specs.Tests.{all_pass, is_new_label, is_expression, is_lawful_proof, each_declared, a_constant, a_variable}
use Rattle.source.specs.Tests.{is_lawful, are_lawful}
use Rattle.source.specs.Faults.{at_start, after_label, in_constants, in_variables, in_distinct, float_type, in_hypothesis, in_axiom}
use Rattle.source.specs.Faults.{in_theorem}
use Rattle.source.specs.Faults.{in_steps, Position, source_language}
use Rattle.source.proofs.Passing.{three_from}
use Rattle.source.proofs.InOrder.{constant_tests_at, variable_tests_at, no_constants, no_variables, constants_pass, variables_pass}
use Rattle.source.proofs.Leading.{there, home}
use Rattle.source.proofs.LeadingRows.{constant_place, variable_place}
use Rattle.source.proofs.ParsedRows.{one_or_more, two_or_more, constants_go, variables_go, distinct_go, hypothesis_go, axiom_go, theorem_go}
use Rattle.source.proofs.ParsedRows.{Labelled, of_float, of_hypothesis, of_axiom, of_theorem, keyword_goes, Starts, of_constants}
use Rattle.source.proofs.ParsedRows.{of_variables}
use Rattle.source.proofs.ParsedRows.{of_distinct, of_block, of_end, of_label, start_goes}
use Rattle.source.proofs.Parsed.{no_end, onward, reads_words, reads_float, reads_proof}

-- ---- one statement

-- a lawful statement, and a walk from behind it
pub record ReadsStatement (s : Scope) (around : List Scope) (ts : List Token) (final : Position) : Type 0 where
  pub statement : Statement
  pub lawful : is_lawful s statement ≡ true
  pub on : ReadsOn source_language (λ more. spelling statement ++ more) (home (behind s statement) around) ts final

-- the words of a list between a first word and its end, before others
listed : (first w stop : Word) (all ws more : List Word) → w ≡ first → all ≡ ws ++ stop ∷ more
    → w ∷ all ≡ (first ∷ (ws ++ stop ∷ [])) ++ more
listed first w stop all ws more is h =
    ap (λ x. x ∷ all) is ∙ ap (λ x. first ∷ x) (h ∙ sym (append_assoc ws (stop ∷ []) more))

-- the words of a theorem, part by part
proved_words : (label w : Word) (all ws others ps more : List Word) → w ≡ codes "$p" → all ≡ ws ++ codes "$=" ∷ others
    → others ≡ ps ++ codes "$." ∷ more
    → label ∷ w ∷ all ≡ (label ∷ codes "$p" ∷ (ws ++ codes "$=" ∷ (ps ++ codes "$." ∷ []))) ++ more
proved_words label w all ws others ps more is h g =
    ap (λ x. label ∷ x ∷ all) is
    ∙ ap (λ x. label ∷ codes "$p" ∷ x)
    (h ∙ ap (λ x. ws ++ codes "$=" ∷ x) (g ∙ sym (append_assoc ps (codes "$." ∷ []) more))
    ∙ sym (append_assoc ws (codes "$=" ∷ (ps ++ codes "$." ∷ [])) more))

module _ (final : Position) (e : final.place ≡ at_start) where
  reads_constants : (s : Scope) (around : List Scope) (t : Token) (ts : List Token) → t.text ≡ codes "$c" → s.outermost ≡ true
      → walk source_language (there s around (in_constants false)) ts ≡ Ok final → ReadsStatement s around (t ∷ ts) final
  reads_constants s around t ts is outer h =
      let p = constant_place s around [] in
      let o = reads_words (constant_place s around) (constant_tests_at s) (codes "$.") one_or_more
      (λ ws. home (behind s (constants ws)) around) (constants_go s around) (λ ws. tt) final e [] ts
      (onward p (there s around (in_constants false)) final ts (ap (λ x. there x around (in_constants false)) (no_constants s)) h) in
      record {
        statement = constants o.words;
        lawful =
            three_from s.outermost (one_or_more o.words) (each_declared a_constant constant_tests s o.words) outer o.enough_stand
            (constants_pass s o.words ∙ o.pass);
        on = record {
          rest = o.on.rest;
          parts = listed (codes "$c") t.text (codes "$.") (words_of ts) o.words (words_of o.on.rest) is o.on.parts;
          walks = o.on.walks;
          shorter = let lt : length o.on.rest < length ts = o.on.shorter in omega arith;
        };
      }

  reads_variables : (s : Scope) (around : List Scope) (t : Token) (ts : List Token) → t.text ≡ codes "$v"
      → walk source_language (there s around (in_variables false)) ts ≡ Ok final → ReadsStatement s around (t ∷ ts) final
  reads_variables s around t ts is h =
      let p = variable_place s around [] in
      let o = reads_words (variable_place s around) (variable_tests_at s) (codes "$.") one_or_more
      (λ ws. home (behind s (variables ws)) around) (variables_go s around) (λ ws. tt) final e [] ts
      (onward p (there s around (in_variables false)) final ts (ap (λ x. there x around (in_variables false)) (no_variables s)) h) in
      record {
        statement = variables o.words;
        lawful =
            and_from (one_or_more o.words) (each_declared a_variable variable_tests s o.words) o.enough_stand
            (variables_pass s o.words ∙ o.pass);
        on = record {
          rest = o.on.rest;
          parts = listed (codes "$v") t.text (codes "$.") (words_of ts) o.words (words_of o.on.rest) is o.on.parts;
          walks = o.on.walks;
          shorter = let lt : length o.on.rest < length ts = o.on.shorter in omega arith;
        };
      }

  reads_distinct : (s : Scope) (around : List Scope) (t : Token) (ts : List Token) → t.text ≡ codes "$d"
      → walk source_language (there s around (in_distinct [])) ts ≡ Ok final → ReadsStatement s around (t ∷ ts) final
  reads_distinct s around t ts is h =
      let o = reads_words (λ vs. there s around (in_distinct vs)) (distinct_tests s) (codes "$.") two_or_more
      (λ vs. home (behind s (distinct vs)) around) (distinct_go s around) (λ vs. tt) final e [] ts h in
      record {
        statement = distinct o.words;
        lawful = and_from (two_or_more o.words) (all_pass (distinct_tests s) [] o.words) o.enough_stand o.pass;
        on = record {
          rest = o.on.rest;
          parts = listed (codes "$d") t.text (codes "$.") (words_of ts) o.words (words_of o.on.rest) is o.on.parts;
          walks = o.on.walks;
          shorter = let lt : length o.on.rest < length ts = o.on.shorter in omega arith;
        };
      }

  -- behind a new label and its keyword
  float_read : (s : Scope) (around : List Scope) (label u : Token) (ts : List Token) → is_new_label s label.text ≡ true
      → u.text ≡ codes "$f" → walk source_language (there s around (float_type label.text)) ts ≡ Ok final
      → ReadsStatement s around (label ∷ u ∷ ts) final
  float_read s around label u ts new is h =
      let o = reads_float final e s around label.text ts h in
      record {
        statement = float label.text o.c o.v;
        lawful =
            three_from (is_new_label s label.text) (passes (type_tests s o.c)) (passes (float_tests s o.v)) new o.type_passes
            o.variable_passes;
        on = record {
          rest = o.on.rest;
          parts = ap (λ x. label.text ∷ x ∷ words_of ts) is ∙ ap (λ x. label.text ∷ codes "$f" ∷ x) o.on.parts;
          walks = o.on.walks;
          shorter = let lt : length o.on.rest < length ts = o.on.shorter in omega arith;
        };
      }

  hypothesis_read : (s : Scope) (around : List Scope) (label u : Token) (ts : List Token) → is_new_label s label.text ≡ true
      → u.text ≡ codes "$e" → walk source_language (there s around (in_hypothesis label.text [])) ts ≡ Ok final
      → ReadsStatement s around (label ∷ u ∷ ts) final
  hypothesis_read s around label u ts new is h =
      let w = label.text in
      let o = reads_words (λ x. there s around (in_hypothesis w x)) (symbol_tests s) (codes "$.") one_or_more
      (λ x. home (behind s (hypothesis w x)) around) (hypothesis_go s around w) (λ x. tt) final e [] ts h in
      record {
        statement = hypothesis w o.words;
        lawful =
            and_from (is_new_label s w) (is_expression s o.words) new
            (and_from (one_or_more o.words) (all_pass (symbol_tests s) [] o.words) o.enough_stand o.pass);
        on = record {
          rest = o.on.rest;
          parts = ap (λ x. w ∷ x) (listed (codes "$e") u.text (codes "$.") (words_of ts) o.words (words_of o.on.rest) is o.on.parts);
          walks = o.on.walks;
          shorter = let lt : length o.on.rest < length ts = o.on.shorter in omega arith;
        };
      }

  axiom_read : (s : Scope) (around : List Scope) (label u : Token) (ts : List Token) → is_new_label s label.text ≡ true
      → u.text ≡ codes "$a" → walk source_language (there s around (in_axiom label.text [])) ts ≡ Ok final
      → ReadsStatement s around (label ∷ u ∷ ts) final
  axiom_read s around label u ts new is h =
      let w = label.text in
      let o = reads_words (λ x. there s around (in_axiom w x)) (symbol_tests s) (codes "$.") one_or_more
      (λ x. home (behind s (asserted w x)) around) (axiom_go s around w) (λ x. tt) final e [] ts h in
      record {
        statement = asserted w o.words;
        lawful =
            and_from (is_new_label s w) (is_expression s o.words) new
            (and_from (one_or_more o.words) (all_pass (symbol_tests s) [] o.words) o.enough_stand o.pass);
        on = record {
          rest = o.on.rest;
          parts = ap (λ x. w ∷ x) (listed (codes "$a") u.text (codes "$.") (words_of ts) o.words (words_of o.on.rest) is o.on.parts);
          walks = o.on.walks;
          shorter = let lt : length o.on.rest < length ts = o.on.shorter in omega arith;
        };
      }

  theorem_read : (s : Scope) (around : List Scope) (label u : Token) (ts : List Token) → is_new_label s label.text ≡ true
      → u.text ≡ codes "$p" → walk source_language (there s around (in_theorem label.text [])) ts ≡ Ok final
      → ReadsStatement s around (label ∷ u ∷ ts) final
  theorem_read s around label u ts new is h =
      let w = label.text in
      let o = reads_words (λ x. there s around (in_theorem w x)) (symbol_tests s) (codes "$=") one_or_more
      (λ x. there s around (in_steps w x [])) (theorem_go s around w) (λ x. tt) final e [] ts h in
      let p = reads_proof final e s around w o.words o.on.rest o.on.walks in
      record {
        statement = proved w o.words p.proof;
        lawful =
            three_from (is_new_label s w) (is_expression s o.words) (is_lawful_proof s o.words p.proof) new
            (and_from (one_or_more o.words) (all_pass (symbol_tests s) [] o.words) o.enough_stand o.pass)
            p.lawful;
        on = record {
          rest = p.on.rest;
          parts =
              proved_words w u.text (words_of ts) o.words (words_of o.on.rest) (proof_spelling p.proof) (words_of p.on.rest) is
              o.on.parts p.on.parts;
          walks = p.on.walks;
          shorter =
              let lt : length o.on.rest < length ts = o.on.shorter in
              let less : length p.on.rest < length o.on.rest = p.on.shorter in
              omega arith;
        };
      }

  keyword_read : (s : Scope) (around : List Scope) (label u : Token) (q : Position) (ts : List Token) → is_label label.text ≡ true
      → Labelled s around label u q → walk source_language q ts ≡ Ok final → ReadsStatement s around (label ∷ u ∷ ts) final
  keyword_read s around label u q ts is_l (of_float is pass at) h =
      float_read s around label u ts (and_from (is_label label.text) (passes (label_tests s label.text)) is_l pass) is
      (onward (there s around (float_type label.text)) q final ts at h)
  keyword_read s around label u q ts is_l (of_hypothesis is pass at) h =
      hypothesis_read s around label u ts (and_from (is_label label.text) (passes (label_tests s label.text)) is_l pass) is
      (onward (there s around (in_hypothesis label.text [])) q final ts at h)
  keyword_read s around label u q ts is_l (of_axiom is pass at) h =
      axiom_read s around label u ts (and_from (is_label label.text) (passes (label_tests s label.text)) is_l pass) is
      (onward (there s around (in_axiom label.text [])) q final ts at h)
  keyword_read s around label u q ts is_l (of_theorem is pass at) h =
      theorem_read s around label u ts (and_from (is_label label.text) (passes (label_tests s label.text)) is_l pass) is
      (onward (there s around (in_theorem label.text [])) q final ts at h)

  reads_labelled : (s : Scope) (around : List Scope) (label : Token) (ts : List Token) → is_label label.text ≡ true
      → walk source_language (there s around (after_label label)) ts ≡ Ok final → ReadsStatement s around (label ∷ ts) final
  reads_labelled s around label [] is_l h = absurd (no_end (there s around (after_label label)) final tt e h)
  reads_labelled s around label (u ∷ ts) is_l h =
      let r = walk_cons source_language (there s around (after_label label)) final u ts h in
      keyword_read s around label u r.0 ts is_l (keyword_goes s around label u r.0 r.1) r.2

-- ---- statements up to the end of the text, or of the innermost block that is open

-- behind the statements: the end of the text, where no block is open, and else $}, and a walk from behind the block
abbrev pub Ends : List Scope → Scope → List Token → Position → Type 0
Ends [] s rest final = (rest ≡ []) × (home s [] ≡ final)
Ends (before ∷ outer) s rest final =
    (others : List Token) × (words_of rest ≡ codes "$}" ∷ words_of others) × (length others < length rest)
    × (walk source_language (home (leave before s) outer) others ≡ Ok final)

pub record ReadsAll (s : Scope) (around : List Scope) (ts : List Token) (final : Position) : Type 0 where
  pub statements : Statements
  pub rest : List Token
  pub parts : words_of ts ≡ spellings statements ++ words_of rest
  pub lawful : are_lawful s statements ≡ true
  pub ends : Ends around (behind_all s statements) rest final
  pub no_longer : length rest ≤ length ts

-- a statement, and those that follow it
one_more : (s : Scope) (around : List Scope) (ts mid : List Token) (final : Position) (x : Statement)
    → words_of ts ≡ spelling x ++ words_of mid → is_lawful s x ≡ true → length mid < length ts → ReadsAll (behind s x) around mid final
    → ReadsAll s around ts final
one_more s around ts mid final x is lawful lt o = record {
  statements = some x o.statements;
  rest = o.rest;
  parts = is ∙ ap (λ ws. spelling x ++ ws) o.parts ∙ sym (append_assoc (spelling x) (spellings o.statements) (words_of o.rest));
  lawful = and_from (is_lawful s x) (are_lawful (behind s x) o.statements) lawful o.lawful;
  ends = o.ends;
  no_longer = let le : length o.rest ≤ length mid = o.no_longer in omega arith;
}

-- nothing follows
at_end : (s : Scope) (around : List Scope) (final : Position) → final.stand.around ≡ [] → home s around ≡ final → Ends around s [] final
at_end s [] final f h = (refl, h)
at_end s (before ∷ outer) final f h =
    absurd (let x : before ∷ outer ≡ [] = ap (λ (p : Position). p.stand.around) h ∙ f in cc)

module _ (final : Position) (e : final.place ≡ at_start) (f : final.stand.around ≡ []) where
  -- what follows fewer tokens is read
  Later : List Token → Type 0
  Later ts =
      (s : Scope) (around : List Scope) (us : List Token) → length us ≤ length ts → walk source_language (home s around) us ≡ Ok final
      → ReadsAll s around us final

  then_all : (s : Scope) (around : List Scope) (t : Token) (ts : List Token) → Later ts → ReadsStatement s around (t ∷ ts) final
      → ReadsAll s around (t ∷ ts) final
  unfolding Later
  then_all s around t ts later o =
      let lt : length o.on.rest < length (t ∷ ts) = o.on.shorter in
      one_more s around (t ∷ ts) o.on.rest final o.statement o.on.parts o.lawful lt
      (later (behind s o.statement) around o.on.rest (omega arith) o.on.walks)

  -- a block, of which the statements are read, and what follows it
  then_block : (s : Scope) (around : List Scope) (t : Token) (ts : List Token) → Later ts → t.text ≡ codes "${"
      → ReadsAll (enter s) (s ∷ around) ts final → ReadsAll s around (t ∷ ts) final
  unfolding Later
  then_block s around t ts later is o =
      let others = o.ends.0 in
      let le : length o.rest ≤ length ts = o.no_longer in
      let lt : length others < length o.rest = o.ends.2 in
      one_more s around (t ∷ ts) others final (block o.statements)
      (listed (codes "${") t.text (codes "$}") (words_of ts) (spellings o.statements) (words_of others) is
      (o.parts ∙ ap (λ ws. spellings o.statements ++ ws) o.ends.1))
      o.lawful (omega arith) (later (leave s (behind_all (enter s) o.statements)) around others (omega arith) o.ends.3)

  -- $}
  closing : (s : Scope) (around : List Scope) (t : Token) (ts : List Token) (before : Scope) (outer : List Scope) → t.text ≡ codes "$}"
      → around ≡ before ∷ outer → walk source_language (home (leave before s) outer) ts ≡ Ok final → ReadsAll s around (t ∷ ts) final
  closing s around t ts before outer is open_is h = record {
    statements = none;
    rest = t ∷ ts;
    parts = refl;
    lawful = refl;
    ends =
        let ends : Ends (before ∷ outer) s (t ∷ ts) final = (ts, ap (λ w. w ∷ words_of ts) is, (omega arith), h) in
        subst (λ x. Ends x s (t ∷ ts) final) (sym open_is) ends;
    no_longer = omega arith;
  }

  reads_from : (s : Scope) (around : List Scope) (t : Token) (q : Position) (ts : List Token) → Later ts → Starts s around t q
      → walk source_language q ts ≡ Ok final → ReadsAll s around (t ∷ ts) final
  unfolding Later
  reads_from s around t q ts later (of_constants is outer at) h =
      then_all s around t ts later
      (reads_constants final e s around t ts is outer (onward (there s around (in_constants false)) q final ts at h))
  reads_from s around t q ts later (of_variables is at) h =
      then_all s around t ts later (reads_variables final e s around t ts is (onward (there s around (in_variables false)) q final ts at h))
  reads_from s around t q ts later (of_distinct is at) h =
      then_all s around t ts later (reads_distinct final e s around t ts is (onward (there s around (in_distinct [])) q final ts at h))
  reads_from s around t q ts later (of_block is at) h =
      then_block s around t ts later is
      (later (enter s) (s ∷ around) ts (omega arith) (onward (home (enter s) (s ∷ around)) q final ts at h))
  reads_from s around t q ts later (of_end before outer is open_is at) h =
      closing s around t ts before outer is open_is (onward (home (leave before s) outer) q final ts at h)
  reads_from s around t q ts later (of_label is_l at) h =
      then_all s around t ts later (reads_labelled final e s around t ts is_l (onward (there s around (after_label t)) q final ts at h))

  pub reads_all : (fuel : ℕ) (s : Scope) (around : List Scope) (ts : List Token) → length ts < fuel
      → walk source_language (home s around) ts ≡ Ok final → ReadsAll s around ts final
  unfolding Later
  reads_all zero s around ts lt h = absurd (omega arith)
  reads_all (suc fuel) s around [] lt h = record {
    statements = none;
    rest = [];
    parts = refl;
    lawful = refl;
    ends = at_end s around final f (walk_none source_language (home s around) final h);
    no_longer = omega arith;
  }
  reads_all (suc fuel) s around (t ∷ ts) lt h =
      let r = walk_cons source_language (home s around) final t ts h in
      reads_from s around t r.0 ts (λ x outer us le g. reads_all fuel x outer us (omega arith) g) (start_goes s around t r.0 r.1) r.2
