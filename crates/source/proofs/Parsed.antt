-- Tokens that lead from a place in a statement to the end of a text have the words of a list, a $f or a proof, and go on behind them.
use Rattle.std.proofs.Common.{◌≡◌, ◌<◌, Bool, true, List, [], ◌∷◌, ◌++◌, length, Ok, refl, sym, ap, subst, ◌∙◌, inl, inr, arith}
use Rattle.std.proofs.Common.{append_assoc, append-nil}
use Rattle.std.specs.Prelude.{codes}
use Rattle.std.specs.List.{list_all}
use Rattle.std.proofs.lemmas.Bool.{and_parts, and_from}
use Rattle.mmtext.specs.Words.{Word}
use Rattle.mmtext.specs.Text.{Token}
use Rattle.mmtext.specs.Comments.{words_of}
use Rattle.walks.proofs.Walks.{walk, walk_none, walk_cons, ReadsOn}
use Rattle.mmsyntax.specs.Rows.{Tests}
use Rattle.source.specs.Statements.{Proof, normal, compressed, float, proved, proof_spelling}
use Rattle.source.specs.Scopes.{Scope, behind}
use Rattle.source.specs.Tests.{passes, type_tests, float_tests, step_tests, cited_tests, letter_tests, all_pass, has_lawful_words, is_whole}
use Rattle.source.specs.Tests.{is_lawful_proof}
use Rattle.source.specs.Faults.{Place, at_start, float_type, float_variable, float_end, in_steps, in_labels, in_letters, Position}
use Rattle.source.specs.Faults.{source_language}
use Rattle.source.proofs.Passing.{three_from}
use Rattle.source.proofs.InOrder.{each_alone, behind_first, one_at_least}
use Rattle.source.proofs.Leading.{there, home}
use Rattle.source.proofs.ParsedRows.{Goes, one_or_more, first_goes, steps_enough, steps_go, cited_go, letters_enough, letters_go, type_goes}
use Rattle.source.proofs.ParsedRows.{float_variable_goes, float_end_goes}

-- ---- a walk that ends between statements doesn't end within one

-- a place within a statement
abbrev pub IsInner : Place → Type 0
IsInner at_start = ⊥
IsInner _ = Unit {0}

pub no_end : (p final : Position) → IsInner p.place → final.place ≡ at_start → walk source_language p [] ≡ Ok final → ⊥
no_end p final inner e h = subst IsInner (ap (λ (x : Position). x.place) (walk_none source_language p final h) ∙ e) inner

pub onward : (p q final : Position) (ts : List Token) → p ≡ q → walk source_language q ts ≡ Ok final → walk source_language p ts ≡ Ok final
onward p q final ts e h = ap (λ x. walk source_language x ts) e ∙ h

-- ---- lists of words

-- words that pass their tests behind others, the word that ends them where enough stand, and a walk from behind it
pub record ReadsWords (tests : List Word → Word → Tests) (stop : Word) (enough : List Word → Bool) (after : List Word → Position)
    (front : List Word) (ts : List Token) (final : Position) : Type 0 where
  pub words : List Word
  pub pass : all_pass tests front words ≡ true
  pub enough_stand : enough (front ++ words) ≡ true
  pub on : ReadsOn source_language (λ more. words ++ stop ∷ more) (after (front ++ words)) ts final

pub reads_words : (at : List Word → Position) (tests : List Word → Word → Tests) (stop : Word) (enough : List Word → Bool)
    (after : List Word → Position) → Goes at tests stop enough after → ((front : List Word) → IsInner (at front).place) → (final : Position)
    → final.place ≡ at_start → (front : List Word) (ts : List Token) → walk source_language (at front) ts ≡ Ok final
    → ReadsWords tests stop enough after front ts final
reads_words at tests stop enough after goes inner final e front [] h = absurd (no_end (at front) final (inner front) e h)
reads_words at tests stop enough after goes inner final e front (t ∷ ts) h =
    let r = walk_cons source_language (at front) final t ts h in
    elim (goes front t r.0 r.1) [
      | inl y ↦ record {
        words = [];
        pass = refl;
        enough_stand = ap enough (append-nil front) ∙ y.1;
        on = record {
          rest = ts;
          parts = ap (λ w. w ∷ words_of ts) y.0;
          walks = onward (after (front ++ [])) r.0 final ts (ap after (append-nil front) ∙ y.2) r.2;
          shorter = omega arith;
        };
      }
      | inr n ↦
          let o = reads_words at tests stop enough after goes inner final e (front ++ t.text ∷ []) ts
          (onward (at (front ++ t.text ∷ [])) r.0 final ts n.1 r.2) in
          let same = append_assoc front (t.text ∷ []) o.words in
          record {
            words = t.text ∷ o.words;
            pass = and_from (passes (tests front t.text)) (all_pass tests (front ++ t.text ∷ []) o.words) n.0 o.pass;
            enough_stand = ap enough (sym same) ∙ o.enough_stand;
            on = record {
              rest = o.on.rest;
              parts = ap (λ ws. t.text ∷ ws) o.on.parts;
              walks =
                  onward (after (front ++ t.text ∷ o.words)) (after ((front ++ t.text ∷ []) ++ o.words)) final o.on.rest
                  (ap after (sym same)) o.on.walks;
              shorter = let lt : length o.on.rest < length ts = o.on.shorter in omega arith;
            };
          }
    ]

-- ---- the type and the variable of a $f, and its end

pub record ReadsFloat (s : Scope) (around : List Scope) (label : Word) (ts : List Token) (final : Position) : Type 0 where
  pub c : Word
  pub v : Word
  pub type_passes : passes (type_tests s c) ≡ true
  pub variable_passes : passes (float_tests s v) ≡ true
  pub on : ReadsOn source_language (λ more. c ∷ v ∷ codes "$." ∷ more) (home (behind s (float label c v)) around) ts final

-- ---- a proof and its end

pub record ReadsProof (s : Scope) (around : List Scope) (label : Word) (e : List Word) (ts : List Token) (final : Position) : Type 0 where
  pub proof : Proof
  pub lawful : is_lawful_proof s e proof ≡ true
  pub on : ReadsOn source_language (λ more. proof_spelling proof ++ codes "$." ∷ more)
      (home (behind s (proved label e proof)) around) ts final

-- the words of a compressed proof, part by part
compressed_words : (w : Word) (all others labels letters more : List Word) → w ≡ codes "(" → all ≡ labels ++ codes ")" ∷ others
    → others ≡ letters ++ codes "$." ∷ more → w ∷ all ≡ proof_spelling (compressed labels letters) ++ codes "$." ∷ more
compressed_words w all others labels letters more is h g =
    ap (λ x. x ∷ all) is ∙ ap (λ x. codes "(" ∷ x) (h ∙ ap (λ x. labels ++ codes ")" ∷ x) g)
    ∙ ap (λ x. codes "(" ∷ x) (sym (append_assoc labels (codes ")" ∷ letters) (codes "$." ∷ more)))

module _ (final : Position) (e : final.place ≡ at_start) where
  float_ends : (s : Scope) (around : List Scope) (label : Word) (tc tv : Token) (ts : List Token) → passes (type_tests s tc.text) ≡ true
      → passes (float_tests s tv.text) ≡ true → walk source_language (there s around (float_end label tc.text tv.text)) ts ≡ Ok final
      → ReadsFloat s around label (tc ∷ tv ∷ ts) final
  float_ends s around label tc tv [] c v h = absurd (no_end (there s around (float_end label tc.text tv.text)) final tt e h)
  float_ends s around label tc tv (t ∷ ts) c v h =
      let r = walk_cons source_language (there s around (float_end label tc.text tv.text)) final t ts h in
      let y = float_end_goes s around label tc.text tv.text t r.0 r.1 in
      record {
        c = tc.text;
        v = tv.text;
        type_passes = c;
        variable_passes = v;
        on = record {
          rest = ts;
          parts = ap (λ w. tc.text ∷ tv.text ∷ w ∷ words_of ts) y.0;
          walks = onward (home (behind s (float label tc.text tv.text)) around) r.0 final ts y.1 r.2;
          shorter = omega arith;
        };
      }

  float_has_variable : (s : Scope) (around : List Scope) (label : Word) (tc : Token) (ts : List Token)
      → passes (type_tests s tc.text) ≡ true
      → walk source_language (there s around (float_variable label tc.text)) ts ≡ Ok final → ReadsFloat s around label (tc ∷ ts) final
  float_has_variable s around label tc [] c h = absurd (no_end (there s around (float_variable label tc.text)) final tt e h)
  float_has_variable s around label tc (tv ∷ ts) c h =
      let r = walk_cons source_language (there s around (float_variable label tc.text)) final tv ts h in
      let y = float_variable_goes s around label tc.text tv r.0 r.1 in
      float_ends s around label tc tv ts c y.0 (onward (there s around (float_end label tc.text tv.text)) r.0 final ts y.1 r.2)

  pub reads_float : (s : Scope) (around : List Scope) (label : Word) (ts : List Token)
      → walk source_language (there s around (float_type label)) ts ≡ Ok final → ReadsFloat s around label ts final
  reads_float s around label [] h = absurd (no_end (there s around (float_type label)) final tt e h)
  reads_float s around label (tc ∷ ts) h =
      let r = walk_cons source_language (there s around (float_type label)) final tc ts h in
      let y = type_goes s around label tc r.0 r.1 in
      float_has_variable s around label tc ts y.0 (onward (there s around (float_variable label tc.text)) r.0 final ts y.1 r.2)

  -- behind a first step
  reads_steps : (s : Scope) (around : List Scope) (label : Word) (x : List Word) (t : Token) (ts : List Token)
      → passes (step_tests s [] t.text) ≡ true → walk source_language (there s around (in_steps label x (t.text ∷ []))) ts ≡ Ok final
      → ReadsProof s around label x (t ∷ ts) final
  reads_steps s around label x t ts first h =
      let w = t.text in
      let o = reads_words (λ ws. there s around (in_steps label x (w ∷ ws))) (λ ws v. step_tests s (w ∷ ws) v) (codes "$.")
      (steps_enough s x w)
      (λ ws. home (behind s (proved label x (normal (w ∷ ws)))) around) (steps_go s around label x w) (λ ws. tt) final e [] ts h in
      let proof = normal (w ∷ o.words) in
      let all = and_from (passes (step_tests s [] w)) (all_pass (step_tests s) (w ∷ []) o.words) first
      (sym (behind_first (step_tests s) w [] o.words) ∙ o.pass) in
      record {
        proof = proof;
        lawful =
            and_from (has_lawful_words s x proof) (is_whole s x proof)
            (and_from (one_or_more (w ∷ o.words)) (all_pass (step_tests s) [] (w ∷ o.words)) (one_at_least (length o.words)) all)
            o.enough_stand;
        on = record {
          rest = o.on.rest;
          parts = ap (λ ws. w ∷ ws) o.on.parts;
          walks = o.on.walks;
          shorter = let lt : length o.on.rest < length ts = o.on.shorter in omega arith;
        };
      }

  -- behind (
  reads_letters : (s : Scope) (around : List Scope) (label : Word) (x : List Word) (t : Token) (ts : List Token)
      → t.text ≡ codes "(" → walk source_language (there s around (in_labels label x [])) ts ≡ Ok final
      → ReadsProof s around label x (t ∷ ts) final
  reads_letters s around label x t ts is h =
      let o = reads_words (λ ws. there s around (in_labels label x ws)) (λ ws w. cited_tests s x w) (codes ")") (λ ws. true)
      (λ ws. there s around (in_letters label x ws [])) (cited_go s around label x) (λ ws. tt) final e [] ts h in
      let l = reads_words (λ ls. there s around (in_letters label x o.words ls)) (letter_tests s x o.words) (codes "$.")
      (letters_enough s x o.words) (λ ls. home (behind s (proved label x (compressed o.words ls))) around)
      (letters_go s around label x o.words)
      (λ ls. tt) final e [] o.on.rest o.on.walks in
      let proof = compressed o.words l.words in
      let both = and_parts (one_or_more l.words) (is_whole s x proof) l.enough_stand in
      record {
        proof = proof;
        lawful =
            and_from (has_lawful_words s x proof) (is_whole s x proof)
            (three_from (list_all (λ w. passes (cited_tests s x w)) o.words) (one_or_more l.words)
            (all_pass (letter_tests s x o.words) [] l.words)
            (each_alone (cited_tests s x) [] o.words ∙ o.pass) both.0 l.pass)
            both.1;
        on = record {
          rest = l.on.rest;
          parts = compressed_words t.text (words_of ts) (words_of o.on.rest) o.words l.words (words_of l.on.rest) is o.on.parts l.on.parts;
          walks = l.on.walks;
          shorter =
              let lt : length o.on.rest < length ts = o.on.shorter in
              let less : length l.on.rest < length o.on.rest = l.on.shorter in
              omega arith;
        };
      }

  pub reads_proof : (s : Scope) (around : List Scope) (label : Word) (x : List Word) (ts : List Token)
      → walk source_language (there s around (in_steps label x [])) ts ≡ Ok final → ReadsProof s around label x ts final
  reads_proof s around label x [] h = absurd (no_end (there s around (in_steps label x [])) final tt e h)
  reads_proof s around label x (t ∷ ts) h =
      let r = walk_cons source_language (there s around (in_steps label x [])) final t ts h in
      elim (first_goes s around label x t r.0 r.1) [
        | inl y ↦ reads_letters s around label x t ts y.0 (onward (there s around (in_labels label x [])) r.0 final ts y.1 r.2)
        | inr n ↦ reads_steps s around label x t ts n.0 (onward (there s around (in_steps label x (t.text ∷ []))) r.0 final ts n.1 r.2)
      ]
