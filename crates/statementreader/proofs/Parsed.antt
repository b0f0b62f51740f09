-- What is read is spelled: the words of declarations, expressions, proofs and $d, from a walk over them.
use Rattle.std.proofs.Common.{◌≡◌, ◌≢◌, ℕ, ◌<◌, Bool, true, List, [], ◌∷◌, ◌++◌, length, Ok, refl, sym, ap, subst, ◌∙◌, ◌⊎◌, inl, inr}
use Rattle.std.proofs.Common.{arith}
use Rattle.std.specs.Prelude.{codes}
use Rattle.mmsyntax.specs.declared.statement.Symbol.{Symbol}
use Rattle.mmsyntax.specs.declared.statement.Step.{Step}
use Rattle.mmtext.specs.Words.{Word}
use Rattle.mmtext.specs.Text.{Token}
use Rattle.mmtext.specs.Comments.{words_of}
use Rattle.mmtext.specs.Languages.{Language}
use Rattle.mmsyntax.specs.Rows.{Known, type_of, variable_of, with_constant, with_variable, with_float}
use Rattle.mmsyntax.specs.Blocks.{Block, with_distinct}
use Rattle.mmsyntax.specs.Faults.{Scope, outside, inside, block_of, Place, at_start, in_constants, in_variables}
use Rattle.mmsyntax.specs.Faults.{float_type, float_variable, float_end, in_distinct, in_proof, Position, row}
use Rattle.mmsyntax.specs.Grammar.{DeclaresConstants, DeclaresVariables, ReadsAfter, Restricts, StepsAfter}
use Rattle.walks.proofs.Walks.{walk, walk_none, walk_cons, ReadsOn}
use Rattle.statementreader.proofs.Leading.{there, home, IsInner}
use Rattle.statementreader.proofs.ParsedRows.{constant_leads, variable_leads, type_leads, float_variable_leads, float_end_leads}
use Rattle.statementreader.proofs.ParsedRows.{distinct_leads}
use Rattle.statementreader.proofs.ParsedRows.{EndsOrReads, theorem_end, proof_leads}

-- where a language goes on, databases do
abbrev pub StaysWithin : {A : Type 0} → Language Position A → Type 0
StaysWithin l = (p q : Position) (t : Token) → l.row p t ≡ Ok q → row p t ≡ Ok q

-- a walk that ends between statements doesn't end in the middle of one
pub no_end : {A : Type 0} (l : Language Position A) (k : Known) (p : Place) (final : Position) → IsInner p → final.place ≡ at_start outside
    → walk l (there k p) [] ≡ Ok final → ⊥
no_end l k p final inner e h = subst IsInner (ap (λ (x : Position). x.place) (walk_none l (there k p) final h) ∙ e) inner

-- ---- words up to $. that are declared, and a walk from behind them

pub record ReadsConstants {A : Type 0} (l : Language Position A) (k : Known) (some : Bool) (ts : List Token)
    (final : Position) : Type 0 where
  pub words : List Word
  pub after : Known
  pub any : (some ≡ true) ⊎ (words ≢ [])
  pub declared : DeclaresConstants k words after
  pub on : ReadsOn l (λ more. words ++ codes "$." ∷ more) (home after) ts final

pub record ReadsVariables {A : Type 0} (l : Language Position A) (k : Known) (some : Bool) (ts : List Token)
    (final : Position) : Type 0 where
  pub words : List Word
  pub after : Known
  pub any : (some ≡ true) ⊎ (words ≢ [])
  pub declared : DeclaresVariables k words after
  pub on : ReadsOn l (λ more. words ++ codes "$." ∷ more) (home after) ts final

-- ---- the symbols of an expression behind others, the word that ends them, and a walk from behind it

pub record ReadsSymbols {A : Type 0} (l : Language Position A) (k : Known) (stop : Word) (ended : List Symbol → Position)
    (front : List Symbol) (ts : List Token) (final : Position) : Type 0 where
  pub words : List Word
  pub whole : List Symbol
  pub any : (front ≢ []) ⊎ (words ≢ [])
  pub read : ReadsAfter k.tables front words whole
  pub on : ReadsOn l (λ more. words ++ stop ∷ more) (ended whole) ts final

-- ---- the steps of a proof behind others

pub record ReadsSteps {A : Type 0} (l : Language Position A) (k : Known) (s : Scope) (label : Word) (e : List Symbol)
    (front : List Step) (ts : List Token) (final : Position) : Type 0 where
  pub words : List Word
  pub whole : List Step
  pub any : (front ≢ []) ⊎ (words ≢ [])
  pub read : StepsAfter k.tables label (block_of s).hyps front words whole
  pub on : ReadsOn l (λ more. words ++ codes "$." ∷ more) (theorem_end k s label e whole) ts final

-- ---- the variables of a $d behind others

pub record ReadsDistinct {A : Type 0} (l : Language Position A) (k : Known) (b : Block) (vs : List ℕ) (ts : List Token)
    (final : Position) : Type 0 where
  pub words : List Word
  pub held : Block
  pub restricts : Restricts k.tables b vs words held
  pub on : ReadsOn l (λ more. words ++ codes "$." ∷ more) (there k (at_start (inside held))) ts final

-- ---- the type and the variable of a $f, and its end

pub record ReadsFloat {A : Type 0} (l : Language Position A) (k : Known) (label : Word) (ts : List Token) (final : Position) : Type 0 where
  pub c : Word
  pub v : Word
  pub i : ℕ
  pub j : ℕ
  pub type_is : type_of k.tables c ≡ Ok i
  pub variable_is : variable_of k.tables v ≡ Ok j
  pub on : ReadsOn l (λ more. c ∷ v ∷ codes "$." ∷ more) (home (with_float k label i j)) ts final

-- ---- walks

module _ {A : Type 0} (l : Language Position A) (within : StaysWithin l) (final : Position) (e : final.place ≡ at_start outside) where
  pub reads_constants : (k : Known) (some : Bool) (ts : List Token) → walk l (there k (in_constants some)) ts ≡ Ok final
      → ReadsConstants l k some ts final
  reads_constants k some [] h = absurd (no_end l k (in_constants some) final tt e h)
  reads_constants k some (t ∷ ts) h =
      let r = walk_cons l (there k (in_constants some)) final t ts h in
      elim (constant_leads k some t r.0 (within (there k (in_constants some)) r.0 t r.1)) [
        | inl y ↦ record {
          words = [];
          after = k;
          any = inl y.0;
          declared = refl;
          on = record {
            rest = ts;
            parts = ap (λ w. w ∷ words_of ts) y.1;
            walks = subst (λ q. walk l q ts ≡ Ok final) (sym y.2) r.2;
            shorter = omega arith;
          };
        }
        | inr n ↦
            let o = reads_constants (with_constant k t.text) true ts (subst (λ q. walk l q ts ≡ Ok final) (sym n.1) r.2) in
            record {
              words = t.text ∷ o.words;
              after = o.after;
              any = inr (λ x. absurd cc);
              declared = (n.0, o.declared);
              on = record {
                rest = o.on.rest;
                parts = ap (λ ws. t.text ∷ ws) o.on.parts;
                walks = o.on.walks;
                shorter = let lt : length o.on.rest < length ts = o.on.shorter in omega arith;
              };
            }
      ]

  pub reads_variables : (k : Known) (some : Bool) (ts : List Token) → walk l (there k (in_variables some)) ts ≡ Ok final
      → ReadsVariables l k some ts final
  reads_variables k some [] h = absurd (no_end l k (in_variables some) final tt e h)
  reads_variables k some (t ∷ ts) h =
      let r = walk_cons l (there k (in_variables some)) final t ts h in
      elim (variable_leads k some t r.0 (within (there k (in_variables some)) r.0 t r.1)) [
        | inl y ↦ record {
          words = [];
          after = k;
          any = inl y.0;
          declared = refl;
          on = record {
            rest = ts;
            parts = ap (λ w. w ∷ words_of ts) y.1;
            walks = subst (λ q. walk l q ts ≡ Ok final) (sym y.2) r.2;
            shorter = omega arith;
          };
        }
        | inr n ↦
            let o = reads_variables (with_variable k t.text) true ts (subst (λ q. walk l q ts ≡ Ok final) (sym n.1) r.2) in
            record {
              words = t.text ∷ o.words;
              after = o.after;
              any = inr (λ x. absurd cc);
              declared = (n.0, o.declared);
              on = record {
                rest = o.on.rest;
                parts = ap (λ ws. t.text ∷ ws) o.on.parts;
                walks = o.on.walks;
                shorter = let lt : length o.on.rest < length ts = o.on.shorter in omega arith;
              };
            }
      ]

  pub reads_symbols : (k : Known) (place : List Symbol → Place) → ((x : List Symbol) → IsInner (place x)) → (stop : Word)
      (ended : List Symbol → Position)
      → ((x : List Symbol) (t : Token) (q : Position) → row (there k (place x)) t ≡ Ok q → EndsOrReads k place stop ended x t q)
      → (front : List Symbol) (ts : List Token) → walk l (there k (place front)) ts ≡ Ok final → ReadsSymbols l k stop ended front ts final
  reads_symbols k place inner stop ended leads front [] h = absurd (no_end l k (place front) final (inner front) e h)
  reads_symbols k place inner stop ended leads front (t ∷ ts) h =
      let r = walk_cons l (there k (place front)) final t ts h in
      elim (leads front t r.0 (within (there k (place front)) r.0 t r.1)) [
        | inl y ↦ record {
          words = [];
          whole = front;
          any = inl y.0;
          read = refl;
          on = record {
            rest = ts;
            parts = ap (λ w. w ∷ words_of ts) y.1;
            walks = subst (λ q. walk l q ts ≡ Ok final) (sym y.2) r.2;
            shorter = omega arith;
          };
        }
        | inr n ↦
            let onward = subst (λ q. walk l q ts ≡ Ok final) (sym n.2) r.2 in
            let o = reads_symbols k place inner stop ended leads (front ++ n.0 ∷ []) ts onward in
            record {
              words = t.text ∷ o.words;
              whole = o.whole;
              any = inr (λ x. absurd cc);
              read = (n.0, n.1, o.read);
              on = record {
                rest = o.on.rest;
                parts = ap (λ ws. t.text ∷ ws) o.on.parts;
                walks = o.on.walks;
                shorter = let lt : length o.on.rest < length ts = o.on.shorter in omega arith;
              };
            }
      ]

  pub reads_steps : (k : Known) (s : Scope) (label : Word) (x : List Symbol) (front : List Step) (ts : List Token)
      → walk l (there k (in_proof s label x front)) ts ≡ Ok final → ReadsSteps l k s label x front ts final
  reads_steps k s label x front [] h = absurd (no_end l k (in_proof s label x front) final tt e h)
  reads_steps k s label x front (t ∷ ts) h =
      let r = walk_cons l (there k (in_proof s label x front)) final t ts h in
      elim (proof_leads k s label x front t r.0 (within (there k (in_proof s label x front)) r.0 t r.1)) [
        | inl y ↦ record {
          words = [];
          whole = front;
          any = inl y.0;
          read = refl;
          on = record {
            rest = ts;
            parts = ap (λ w. w ∷ words_of ts) y.1;
            walks = subst (λ q. walk l q ts ≡ Ok final) (sym y.2) r.2;
            shorter = omega arith;
          };
        }
        | inr n ↦
            let o = reads_steps k s label x (front ++ n.0 ∷ []) ts (subst (λ q. walk l q ts ≡ Ok final) (sym n.2) r.2) in
            record {
              words = t.text ∷ o.words;
              whole = o.whole;
              any = inr (λ z. absurd cc);
              read = (n.0, n.1, o.read);
              on = record {
                rest = o.on.rest;
                parts = ap (λ ws. t.text ∷ ws) o.on.parts;
                walks = o.on.walks;
                shorter = let lt : length o.on.rest < length ts = o.on.shorter in omega arith;
              };
            }
      ]

  pub reads_distinct : (k : Known) (b : Block) (vs : List ℕ) (ts : List Token) → walk l (there k (in_distinct b vs)) ts ≡ Ok final
      → ReadsDistinct l k b vs ts final
  reads_distinct k b vs [] h = absurd (no_end l k (in_distinct b vs) final tt e h)
  reads_distinct k b vs (t ∷ ts) h =
      let r = walk_cons l (there k (in_distinct b vs)) final t ts h in
      elim (distinct_leads k b vs t r.0 (within (there k (in_distinct b vs)) r.0 t r.1)) [
        | inl y ↦ record {
          words = [];
          held = b;
          restricts = (y.0, refl);
          on = record {
            rest = ts;
            parts = ap (λ w. w ∷ words_of ts) y.1;
            walks = subst (λ q. walk l q ts ≡ Ok final) (sym y.2) r.2;
            shorter = omega arith;
          };
        }
        | inr n ↦
            let o = reads_distinct k (with_distinct b vs n.0) (vs ++ n.0 ∷ []) ts (subst (λ q. walk l q ts ≡ Ok final) (sym n.2) r.2) in
            record {
              words = t.text ∷ o.words;
              held = o.held;
              restricts = (n.0, n.1, o.restricts);
              on = record {
                rest = o.on.rest;
                parts = ap (λ ws. t.text ∷ ws) o.on.parts;
                walks = o.on.walks;
                shorter = let lt : length o.on.rest < length ts = o.on.shorter in omega arith;
              };
            }
      ]

  -- the end of a $f
  float_ends : (k : Known) (label : Word) (i j : ℕ) (tc tv : Token) (ts : List Token) → type_of k.tables tc.text ≡ Ok i
      → variable_of k.tables tv.text ≡ Ok j → walk l (there k (float_end label i tv.text j)) ts ≡ Ok final
      → ReadsFloat l k label (tc ∷ tv ∷ ts) final
  float_ends k label i j tc tv [] ti vj h = absurd (no_end l k (float_end label i tv.text j) final tt e h)
  float_ends k label i j tc tv (te ∷ ts) ti vj h =
      let p = there k (float_end label i tv.text j) in
      let r = walk_cons l p final te ts h in
      let y = float_end_leads k label tv.text i j te r.0 (within p r.0 te r.1) in
      record {
        c = tc.text;
        v = tv.text;
        i = i;
        j = j;
        type_is = ti;
        variable_is = vj;
        on = record {
          rest = ts;
          parts = ap (λ w. tc.text ∷ tv.text ∷ w ∷ words_of ts) y.0;
          walks = subst (λ q. walk l q ts ≡ Ok final) (sym y.1) r.2;
          shorter = omega arith;
        };
      }

  float_has_variable : (k : Known) (label : Word) (i : ℕ) (tc : Token) (ts : List Token) → type_of k.tables tc.text ≡ Ok i
      → walk l (there k (float_variable label i)) ts ≡ Ok final → ReadsFloat l k label (tc ∷ ts) final
  float_has_variable k label i tc [] ti h = absurd (no_end l k (float_variable label i) final tt e h)
  float_has_variable k label i tc (tv ∷ ts) ti h =
      let p = there k (float_variable label i) in
      let r = walk_cons l p final tv ts h in
      let y = float_variable_leads k label i tv r.0 (within p r.0 tv r.1) in
      float_ends k label i y.0 tc tv ts ti y.1 (subst (λ q. walk l q ts ≡ Ok final) (sym y.2) r.2)

  pub reads_float : (k : Known) (label : Word) (ts : List Token) → walk l (there k (float_type label)) ts ≡ Ok final
      → ReadsFloat l k label ts final
  reads_float k label [] h = absurd (no_end l k (float_type label) final tt e h)
  reads_float k label (tc ∷ ts) h =
      let r = walk_cons l (there k (float_type label)) final tc ts h in
      let y = type_leads k label tc r.0 (within (there k (float_type label)) r.0 tc r.1) in
      float_has_variable k label y.0 tc ts y.1 (subst (λ q. walk l q ts ≡ Ok final) (sym y.2) r.2)
