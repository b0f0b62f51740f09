-- What is read is spelled: blocks and statements, from a walk over them.
use Rattle.std.proofs.Common.{◌≡◌, ◌≢◌, ℕ, zero, suc, ◌<◌, true, false, List, [], ◌∷◌, ◌++◌, length, Ok, refl, sym, ap, subst, ◌∙◌}
use Rattle.std.proofs.Common.{◌⊎◌, inl, inr, arith, append_assoc}
use Rattle.std.specs.Prelude.{codes, IsTrue}
use Rattle.std.specs.List.{flat_map}
use Rattle.std.proofs.lemmas.List.Concat.{flat_map-cons}
use Rattle.mmsyntax.specs.declared.statement.Symbol.{Symbol}
use Rattle.mmsyntax.specs.declared.statement.Step.{Step}
use Rattle.mmsyntax.specs.declared.statement.Assertion.{Assertion}
use Rattle.mmtext.specs.Words.{Word, is_label}
use Rattle.mmtext.specs.Text.{Token}
use Rattle.mmtext.specs.Comments.{words_of}
use Rattle.mmtext.specs.Languages.{Language}
use Rattle.mmsyntax.specs.Rows.{Known, Pass, assertion_label_tests, with_float, with_hypothesis_label, with_assertion}
use Rattle.mmsyntax.specs.Blocks.{Block, no_block, hypothesis_label_tests, with_hypothesis, axiom_of, theorem_of}
use Rattle.mmsyntax.specs.Faults.{Scope, outside, inside, block_of, at_start, at_close, after_label}
use Rattle.mmsyntax.specs.Faults.{in_hypothesis, in_axiom, in_theorem, in_proof, Position, behind}
use Rattle.mmsyntax.specs.Grammar.{Claim, asserted, proved, Piece, distinct, hypothesis, Statement, constants, variables, float}
use Rattle.mmsyntax.specs.Grammar.{alone, block}
use Rattle.mmsyntax.specs.Grammar.{claim_spelling, piece_spelling, spelling, Claims, Holds, HoldAll, Declares, DeclareAll}
use Rattle.walks.proofs.Walks.{walk, walk_none, walk_cons, ReadsOn}
use Rattle.statementreader.proofs.Leading.{there, home}
use Rattle.statementreader.proofs.LeadingStatements.{regroup, regroup_theorem, regroup_block}
use Rattle.statementreader.proofs.ParsedRows.{hypothesis_leads, hypothesis_end, axiom_leads, axiom_end, theorem_leads, Asserts}
use Rattle.statementreader.proofs.ParsedRows.{outermost_leads, block_leads, close_leads, keyword_leads, block_keyword_leads}
use Rattle.statementreader.proofs.Parsed.{StaysWithin, no_end, reads_constants, reads_variables, reads_symbols, reads_steps}
use Rattle.statementreader.proofs.Parsed.{reads_distinct, reads_float}

-- ---- what is read

-- an assertion at the front, and a walk from behind it
pub record ReadsClaim {A : Type 0} (l : Language Position A) (k : Known) (s : Scope) (ts : List Token) (final : Position) : Type 0 where
  pub claim : Claim
  pub assertion : Assertion
  pub claims : Claims k (block_of s) claim assertion
  pub on : ReadsOn l (λ more. claim_spelling claim ++ more) (there (with_assertion k assertion) (behind s)) ts final

-- what stands in a block behind what it holds, up to $}
pub record ReadsBlock {A : Type 0} (l : Language Position A) (k : Known) (b : Block) (ts : List Token) (final : Position) : Type 0 where
  pub pieces : List Piece
  pub next : Known
  pub held : Block
  pub claim : Claim
  pub assertion : Assertion
  pub holds : HoldAll k b pieces next held
  pub claims : Claims next held claim assertion
  pub on : ReadsOn l (λ more. flat_map piece_spelling pieces ++ (claim_spelling claim ++ more))
      (there (with_assertion next assertion) at_close) ts final

-- a statement at the front, and a walk from behind it
pub record ReadsStatement {A : Type 0} (l : Language Position A) (k : Known) (ts : List Token) (final : Position) : Type 0 where
  pub statement : Statement
  pub after : Known
  pub declared : Declares k statement after
  pub on : ReadsOn l (λ more. spelling statement ++ more) (home after) ts final

-- statements of which these are the words
pub record ReadsAll (k : Known) (ts : List Token) (final : Position) : Type 0 where
  pub statements : List Statement
  pub parts : words_of ts ≡ flat_map spelling statements
  pub declared : DeclareAll k statements final.known

-- ---- words that stand somewhere

abbrev no_symbols : List Symbol
no_symbols = []

abbrev no_steps : List Step
no_steps = []

some_symbols : {ws : List Word} → (no_symbols ≢ no_symbols) ⊎ (ws ≢ []) → ws ≢ []
some_symbols (inl y) = absurd (y refl)
some_symbols (inr n) = n

some_steps : {ws : List Word} → (no_steps ≢ no_steps) ⊎ (ws ≢ []) → ws ≢ []
some_steps (inl y) = absurd (y refl)
some_steps (inr n) = n

some_names : {ws : List Word} → (false ≡ true) ⊎ (ws ≢ []) → ws ≢ []
some_names (inl y) = absurd cc
some_names (inr n) = n

-- ---- walks

module _ {A : Type 0} (l : Language Position A) (within : StaysWithin l) (final : Position) (e : final.place ≡ at_start outside) where
  -- behind label and $a
  reads_axiom : (k : Known) (s : Scope) (label u : Token) (ts : List Token) → IsTrue (is_label label.text)
      → Pass (assertion_label_tests k label.text) → u.text ≡ codes "$a" → walk l (there k (in_axiom s label.text [])) ts ≡ Ok final
      → ReadsClaim l k s (label ∷ u ∷ ts) final
  reads_axiom k s label u ts is_l pass is h =
      let w = label.text in
      let o = reads_symbols l within final e k (λ x. in_axiom s w x) (λ x. tt) (codes "$.") (axiom_end k s w)
      (axiom_leads k s w) [] ts h in
      record {
        claim = asserted w o.words;
        assertion = axiom_of (block_of s) w o.whole;
        claims = (is_l, pass, some_symbols o.any, (o.whole, o.read, refl));
        on = record {
          rest = o.on.rest;
          parts =
              ap (λ x. w ∷ x ∷ words_of ts) is ∙ ap (λ ws. w ∷ codes "$a" ∷ ws) o.on.parts
              ∙ sym (ap (λ x. w ∷ x) (regroup (codes "$a") o.words (codes "$.") (words_of o.on.rest)));
          walks = o.on.walks;
          shorter = let lt : length o.on.rest < length ts = o.on.shorter in omega arith;
        };
      }

  -- behind label and $p
  reads_theorem : (k : Known) (s : Scope) (label u : Token) (ts : List Token) → IsTrue (is_label label.text)
      → Pass (assertion_label_tests k label.text) → u.text ≡ codes "$p" → walk l (there k (in_theorem s label.text [])) ts ≡ Ok final
      → ReadsClaim l k s (label ∷ u ∷ ts) final
  reads_theorem k s label u ts is_l pass is h =
      let w = label.text in
      let o = reads_symbols l within final e k (λ x. in_theorem s w x) (λ x. tt) (codes "$=") (λ x. there k (in_proof s w x []))
      (theorem_leads k s w) [] ts h in
      let p = reads_steps l within final e k s w o.whole [] o.on.rest o.on.walks in
      record {
        claim = proved w o.words p.words;
        assertion = theorem_of (block_of s) w o.whole p.whole;
        claims = (is_l, pass, some_symbols o.any, some_steps p.any, (o.whole, p.whole, o.read, p.read, refl));
        on = record {
          rest = p.on.rest;
          parts =
              ap (λ x. w ∷ x ∷ words_of ts) is ∙ ap (λ ws. w ∷ codes "$p" ∷ ws) o.on.parts
              ∙ ap (λ ws. w ∷ codes "$p" ∷ (o.words ++ codes "$=" ∷ ws)) p.on.parts
              ∙ sym (regroup_theorem w o.words p.words (words_of p.on.rest));
          walks = p.on.walks;
          shorter =
              let lt : length o.on.rest < length ts = o.on.shorter in
              let less : length p.on.rest < length o.on.rest = p.on.shorter in
              omega arith;
        };
      }

  -- behind a label and the keyword of an assertion
  reads_claim : (k : Known) (s : Scope) (label u : Token) (q : Position) (ts : List Token) → IsTrue (is_label label.text)
      → Asserts k s label u q → walk l q ts ≡ Ok final → ReadsClaim l k s (label ∷ u ∷ ts) final
  reads_claim k s label u q ts is_l (inl a) h =
      reads_axiom k s label u ts is_l a.1 a.0 (subst (λ x. walk l x ts ≡ Ok final) (sym a.2) h)
  reads_claim k s label u q ts is_l (inr p) h =
      reads_theorem k s label u ts is_l p.1 p.0 (subst (λ x. walk l x ts ≡ Ok final) (sym p.2) h)

  -- a $d or $e, and what follows it in the block
  one_more : (k : Known) (b : Block) (p : Piece) (next : Known) (held : Block) (ts rest : List Token) → Holds k b p next held
      → words_of ts ≡ piece_spelling p ++ words_of rest → length rest < length ts → ReadsBlock l next held rest final
      → ReadsBlock l k b ts final
  one_more k b p next held ts rest holds is lt o =
      let f = flat_map piece_spelling o.pieces in
      let behind_piece = claim_spelling o.claim ++ words_of o.on.rest in
      record {
        pieces = p ∷ o.pieces;
        next = o.next;
        held = o.held;
        claim = o.claim;
        assertion = o.assertion;
        holds = (next, held, holds, o.holds);
        claims = o.claims;
        on = record {
          rest = o.on.rest;
          parts =
              is ∙ ap (λ ws. piece_spelling p ++ ws) o.on.parts ∙ sym (append_assoc (piece_spelling p) f behind_piece)
              ∙ sym (ap (λ ws. ws ++ behind_piece) (flat_map-cons piece_spelling p o.pieces));
          walks = o.on.walks;
          shorter = let less : length o.on.rest < length rest = o.on.shorter in omega arith;
        };
      }

  -- in a block, behind a label and $e
  reads_hypothesis : (k : Known) (b : Block) (label u : Token) (ts : List Token) → IsTrue (is_label label.text)
      → Pass (hypothesis_label_tests k b label.text) → u.text ≡ codes "$e" → walk l (there k (in_hypothesis b label.text [])) ts ≡ Ok final
      → ((next : Known) (held : Block) (rest : List Token) → length rest < length ts
      → walk l (there next (at_start (inside held))) rest ≡ Ok final → ReadsBlock l next held rest final)
      → ReadsBlock l k b (label ∷ u ∷ ts) final
  reads_hypothesis k b label u ts is_l pass is h later =
      let w = label.text in
      let o = reads_symbols l within final e k (λ x. in_hypothesis b w x) (λ x. tt) (codes "$.") (hypothesis_end k b w)
      (hypothesis_leads k b w) [] ts h in
      let next = with_hypothesis_label k w in
      let held = with_hypothesis b w o.whole in
      let lt : length o.on.rest < length ts = o.on.shorter in
      one_more k b (hypothesis w o.words) next held (label ∷ u ∷ ts) o.on.rest
      (is_l, pass, some_symbols o.any, (o.whole, o.read, refl, refl))
      (ap (λ x. w ∷ x ∷ words_of ts) is ∙ ap (λ ws. w ∷ codes "$e" ∷ ws) o.on.parts
      ∙ sym (ap (λ x. w ∷ x) (regroup (codes "$e") o.words (codes "$.") (words_of o.on.rest))))
      (omega arith) (later next held o.on.rest lt o.on.walks)

  -- in a block, behind a label
  reads_labelled : (k : Known) (b : Block) (label : Token) (ts : List Token) → IsTrue (is_label label.text)
      → walk l (there k (after_label (inside b) label)) ts ≡ Ok final
      → ((next : Known) (held : Block) (rest : List Token) → length rest < length ts
      → walk l (there next (at_start (inside held))) rest ≡ Ok final → ReadsBlock l next held rest final)
      → ReadsBlock l k b (label ∷ ts) final
  reads_labelled k b label [] is_l h later = absurd (no_end l k (after_label (inside b) label) final tt e h)
  reads_labelled k b label (u ∷ ts) is_l h later =
      let p = there k (after_label (inside b) label) in
      let r = walk_cons l p final u ts h in
      elim (block_keyword_leads k b label u r.0 (within p r.0 u r.1)) [
        | inl y ↦
            reads_hypothesis k b label u ts is_l y.1 y.0 (subst (λ x. walk l x ts ≡ Ok final) (sym y.2) r.2)
            (λ next held rest lt g. later next held rest (omega arith) g)
        | inr a ↦
            let c = reads_claim k (inside b) label u r.0 ts is_l a r.2 in
            record {
              pieces = [];
              next = k;
              held = b;
              claim = c.claim;
              assertion = c.assertion;
              holds = (refl, refl);
              claims = c.claims;
              on = c.on;
            }
      ]

  -- in a block
  reads_block : (fuel : ℕ) (k : Known) (b : Block) (ts : List Token) → length ts < fuel
      → walk l (there k (at_start (inside b))) ts ≡ Ok final → ReadsBlock l k b ts final
  reads_block zero k b ts lt h = absurd (omega arith)
  reads_block (suc fuel) k b [] lt h = absurd (no_end l k (at_start (inside b)) final tt e h)
  reads_block (suc fuel) k b (t ∷ ts) lt h =
      let p = there k (at_start (inside b)) in
      let r = walk_cons l p final t ts h in
      elim (block_leads k b t r.0 (within p r.0 t r.1)) [
        | inl y ↦
            let o = reads_distinct l within final e k b [] ts (subst (λ x. walk l x ts ≡ Ok final) (sym y.1) r.2) in
            let less : length o.on.rest < length ts = o.on.shorter in
            one_more k b (distinct o.words) k o.held (t ∷ ts) o.on.rest (refl, o.restricts)
            (ap (λ w. w ∷ words_of ts) y.0 ∙ ap (λ ws. codes "$d" ∷ ws) o.on.parts
            ∙ sym (regroup (codes "$d") o.words (codes "$.") (words_of o.on.rest)))
            (omega arith) (reads_block fuel k o.held o.on.rest (omega arith) o.on.walks)
        | inr y ↦
            reads_labelled k b t ts y.0 (subst (λ x. walk l x ts ≡ Ok final) (sym y.1) r.2)
            (λ next held rest less g. reads_block fuel next held rest (omega arith) g)
      ]

  -- behind ${ and what a block has, its $}
  reads_close : (k : Known) (t : Token) (ts us : List Token) (o : ReadsBlock l k no_block ts final) → t.text ≡ codes "${" → o.on.rest ≡ us
      → ReadsStatement l k (t ∷ ts) final
  reads_close k t ts [] o is same =
      let known = with_assertion o.next o.assertion in
      absurd (no_end l known at_close final tt e (subst (λ x. walk l (there known at_close) x ≡ Ok final) same o.on.walks))
  reads_close k t ts (u ∷ us) o is same =
      let known = with_assertion o.next o.assertion in
      let r = walk_cons l (there known at_close) final u us (subst (λ x. walk l (there known at_close) x ≡ Ok final) same o.on.walks) in
      let c = close_leads known u r.0 (within (there known at_close) r.0 u r.1) in
      let f = flat_map piece_spelling o.pieces in
      let words = claim_spelling o.claim in
      record {
        statement = block o.pieces o.claim;
        after = known;
        declared = (o.next, o.held, o.assertion, o.holds, o.claims, refl);
        on = record {
          rest = us;
          parts =
              ap (λ w. w ∷ words_of ts) is ∙ ap (λ ws. codes "${" ∷ ws) o.on.parts
              ∙ ap (λ x. codes "${" ∷ (f ++ (words ++ words_of x))) same ∙ ap (λ w. codes "${" ∷ (f ++ (words ++ w ∷ words_of us))) c.0
              ∙ sym (regroup_block f words (words_of us));
          walks = subst (λ x. walk l x us ≡ Ok final) (sym c.1) r.2;
          shorter =
              let less : length o.on.rest < length ts = o.on.shorter in
              let eq : length o.on.rest ≡ suc (length us) = ap (λ (x : List Token). length x) same in
              omega arith;
        };
      }

  -- outermost, behind a label
  reads_outer : (k : Known) (label : Token) (ts : List Token) → IsTrue (is_label label.text)
      → walk l (there k (after_label outside label)) ts ≡ Ok final → ReadsStatement l k (label ∷ ts) final
  reads_outer k label [] is_l h = absurd (no_end l k (after_label outside label) final tt e h)
  reads_outer k label (u ∷ ts) is_l h =
      let w = label.text in
      let p = there k (after_label outside label) in
      let r = walk_cons l p final u ts h in
      elim (keyword_leads k label u r.0 (within p r.0 u r.1)) [
        | inl y ↦
            let o = reads_float l within final e k w ts (subst (λ x. walk l x ts ≡ Ok final) (sym y.3) r.2) in
            record {
              statement = float w o.c o.v;
              after = with_float k w o.i o.j;
              declared = (y.1, is_l, y.2, (o.i, o.j, o.type_is, o.variable_is, refl));
              on = record {
                rest = o.on.rest;
                parts = ap (λ x. w ∷ x ∷ words_of ts) y.0 ∙ ap (λ ws. w ∷ codes "$f" ∷ ws) o.on.parts;
                walks = o.on.walks;
                shorter = let lt : length o.on.rest < length ts = o.on.shorter in omega arith;
              };
            }
        | inr a ↦
            let c = reads_claim k outside label u r.0 ts is_l a r.2 in
            record {
              statement = alone c.claim;
              after = with_assertion k c.assertion;
              declared = (c.assertion, c.claims, refl);
              on = c.on;
            }
      ]

  pub reads_statement : (k : Known) (t : Token) (ts : List Token) → walk l (home k) (t ∷ ts) ≡ Ok final → ReadsStatement l k (t ∷ ts) final
  reads_statement k t ts h =
      let r = walk_cons l (home k) final t ts h in
      elim (outermost_leads k t r.0 (within (home k) r.0 t r.1)) [
        | inl c ↦
            let o = reads_constants l within final e k false ts (subst (λ x. walk l x ts ≡ Ok final) (sym c.2) r.2) in
            record {
              statement = constants o.words;
              after = o.after;
              declared = (c.1, some_names o.any, o.declared);
              on = record {
                rest = o.on.rest;
                parts =
                    ap (λ w. w ∷ words_of ts) c.0 ∙ ap (λ ws. codes "$c" ∷ ws) o.on.parts
                    ∙ sym (regroup (codes "$c") o.words (codes "$.") (words_of o.on.rest));
                walks = o.on.walks;
                shorter = let lt : length o.on.rest < length ts = o.on.shorter in omega arith;
              };
            }
        | inr x ↦ elim x [
          | inl v ↦
              let o = reads_variables l within final e k false ts (subst (λ x. walk l x ts ≡ Ok final) (sym v.2) r.2) in
              record {
                statement = variables o.words;
                after = o.after;
                declared = (v.1, some_names o.any, o.declared);
                on = record {
                  rest = o.on.rest;
                  parts =
                      ap (λ w. w ∷ words_of ts) v.0 ∙ ap (λ ws. codes "$v" ∷ ws) o.on.parts
                      ∙ sym (regroup (codes "$v") o.words (codes "$.") (words_of o.on.rest));
                  walks = o.on.walks;
                  shorter = let lt : length o.on.rest < length ts = o.on.shorter in omega arith;
                };
              }
          | inr y ↦ elim y [
            | inl b ↦
                let o = reads_block (suc (length ts)) k no_block ts (omega arith) (subst (λ x. walk l x ts ≡ Ok final) (sym b.1) r.2) in
                reads_close k t ts o.on.rest o b.0 refl
            | inr n ↦ reads_outer k t ts n.0 (subst (λ x. walk l x ts ≡ Ok final) (sym n.1) r.2)
          ]
        ]
      ]

  pub reads_all : (fuel : ℕ) (k : Known) (ts : List Token) → length ts < fuel → walk l (home k) ts ≡ Ok final → ReadsAll k ts final
  reads_all zero k ts lt h = absurd (omega arith)
  reads_all (suc fuel) k [] lt h =
      record { statements = []; parts = refl; declared = ap (λ (x : Position). x.known) (walk_none l (home k) final h) }
  reads_all (suc fuel) k (t ∷ ts) lt h =
      let o = reads_statement k t ts h in
      let less : length o.on.rest < suc (length ts) = o.on.shorter in
      let others = reads_all fuel o.after o.on.rest (omega arith) o.on.walks in
      record {
        statements = o.statement ∷ others.statements;
        parts =
            o.on.parts ∙ ap (λ ws. spelling o.statement ++ ws) others.parts
            ∙ sym (flat_map-cons spelling o.statement others.statements);
        declared = (o.after, o.declared, others.declared);
      }
