-- Words that grow by one in a statement that doesn't end: where that leads, and why it may not.
use Rattle.std.proofs.Common.{◌≡◌, ◌≤◌, ◌∙◌, ℕ, Bool, true, false, cond, List, [], ◌∷◌, ◌++◌, length, Option, Some, None, Ok, refl, sym, ap, arith}
use Rattle.std.specs.Borrow.{Bor}
use Rattle.std.specs.Prelude.{codes}
use Rattle.std.specs.Str.{bytes_eq}
use Rattle.mmtext.specs.declared.fault.FaultKind.{FaultKind}
use Rattle.mmtext.specs.declared.fault.Stop.{Stop}
use Rattle.mmtext.specs.declared.fault.Stop.TheVariants as stop
use Rattle.mmtext.specs.declared.mark.Mark.{Mark}
use Rattle.mmtext.specs.declared.mark.Mark.TheVariants as mark
use Rattle.mmtext.specs.Text.{Token}
use Rattle.mmtext.specs.Views.{Fails}
use Rattle.mmtext.specs.Words.{Word}
use Rattle.source.specs.Scopes.{Stand}
use Rattle.source.specs.Tests.{distinct_tests, cited_tests, letter_tests}
use Rattle.source.specs.Faults.{Place, in_distinct, in_hypothesis, in_axiom, in_theorem, Position, Next, to, faulted, tested, next_symbol}
use Rattle.source.specs.Faults.{distinct_row, hypothesis_row, axiom_row, theorem_row, in_labels, in_letters, next_step, proof_row, labels_row, letters_row}
use Rattle.source.specs.Views.{seen_words}
use Rattle.sourcereader.specs.Takings.{one_more}
use Rattle.sourcereader.specs.Views.{standing_at}

-- no test has both outcomes
pub not_both : (b : Bool) → b ≡ true → b ≡ false → ⊥
not_both b is isnt = let both = sym is ∙ isnt in cc

-- no words are kept where none are seen
pub none_seen : (ws : List (Bor (List ℕ))) → length ws ≡ 0 → seen_words ws ≡ []
none_seen [] h = refl
none_seen (w ∷ ws) h = absurd (omega arith)

pub some_seen : (ws : List (Bor (List ℕ))) → (length ws ≡ 0 → ⊥) → seen_words ws ≡ [] → ⊥
some_seen [] h none = h refl
some_seen (w ∷ ws) h none = cc

pub few_seen : (ws : List (Bor (List ℕ))) → length ws ≤ 1 → length (seen_words ws) ≤ 1
few_seen [] h = omega arith
few_seen (w ∷ []) h = omega arith
few_seen (v ∷ w ∷ ws) h = absurd (omega arith)

-- ---- rows of statements that don't end

pub distinct_grows : (p : Position) (vs : List Word) (t : Token) (m : Mark) → (m ≡ mark.End → length vs ≤ 1)
    → distinct_row p vs t m ≡ tested t (distinct_tests p.stand.scope vs t.text) (to p (in_distinct (vs ++ t.text ∷ [])))
distinct_grows p (v ∷ w ∷ vs) t mark.End h = absurd (let few = h refl in omega arith)
distinct_grows p vs t m h = refl

pub hypothesis_grows : (p : Position) (label : Word) (e : List Word) (t : Token) (m : Mark) → (m ≡ mark.End → e ≡ [])
    → hypothesis_row p label e t m ≡ next_symbol p e t (λ x. in_hypothesis label x)
hypothesis_grows p label (c ∷ e) t mark.End h = absurd (let none : c ∷ e ≡ [] = h refl in cc)
hypothesis_grows p label e t m h = refl

pub axiom_grows : (p : Position) (label : Word) (e : List Word) (t : Token) (m : Mark) → (m ≡ mark.End → e ≡ [])
    → axiom_row p label e t m ≡ next_symbol p e t (λ x. in_axiom label x)
axiom_grows p label (c ∷ e) t mark.End h = absurd (let none : c ∷ e ≡ [] = h refl in cc)
axiom_grows p label e t m h = refl

pub theorem_grows : (p : Position) (label : Word) (e : List Word) (t : Token) (m : Mark) → (m ≡ mark.Proof → e ≡ [])
    → theorem_row p label e t m ≡ next_symbol p e t (λ x. in_theorem label x)
theorem_grows p label (c ∷ e) t mark.Proof h = absurd (let none : c ∷ e ≡ [] = h refl in cc)
theorem_grows p label e t m h = refl

-- ---- rows of proofs that don't end

-- a step that isn't the ( behind $=
pub proof_grows : (p : Position) (label : Word) (e ws : List Word) (t : Token) (m : Mark) → (ws ≡ [] → bytes_eq t.text (codes "(") ≡ false)
    → (m ≡ mark.End → ws ≡ []) → proof_row p label e ws t m ≡ next_step p label e ws t
proof_grows p label e [] t m other h = ap (λ b. cond b (to p (in_labels label e [])) (next_step p label e [] t)) (other refl)
proof_grows p label e (w ∷ ws) t mark.End other h = absurd (let none : w ∷ ws ≡ [] = h refl in cc)
proof_grows p label e (w ∷ ws) t m other h = refl

pub labels_grow : (p : Position) (label : Word) (e ws : List Word) (t : Token) → bytes_eq t.text (codes ")") ≡ false
    → labels_row p label e ws t ≡ tested t (cited_tests p.stand.scope e t.text) (to p (in_labels label e (ws ++ t.text ∷ [])))
labels_grow p label e ws t h =
    ap (λ b. cond b (to p (in_letters label e ws []))
    (tested t (cited_tests p.stand.scope e t.text) (to p (in_labels label e (ws ++ t.text ∷ []))))) h

pub letters_grow : (p : Position) (label : Word) (e ws ls : List Word) (t : Token) (m : Mark) → (m ≡ mark.End → ls ≡ [])
    → letters_row p label e ws ls t m
    ≡ tested t (letter_tests p.stand.scope e ws ls t.text) (to p (in_letters label e ws (ls ++ t.text ∷ [])))
letters_grow p label e ws (l ∷ ls) t mark.End h = absurd (let none : l ∷ ls ≡ [] = h refl in cc)
letters_grow p label e ws ls t m h = refl

-- ---- one word more

-- what it leads to
pub grown : (s next : Stand) (t : Token) (e ws : List Word) (o : Option FaultKind) (here : Place) (place : List Word → Place) → next ≡ s
    → one_more t e o ≡ Ok ws → faulted t o (to (standing_at s here) (place (e ++ t.text ∷ []))) ≡ Ok (standing_at next (place ws))
grown s next t e ws None here place same h =
    let is : e ++ t.text ∷ [] ≡ ws = cc in
    ap (λ v. Ok (standing_at s (place v))) is ∙ ap (λ x. Ok (standing_at x (place ws))) (sym same)
grown s next t e ws (Some kind) here place same h = absurd cc

-- why it may not stand there
pub not_grown : (why : Stop) (t : Token) (e : List Word) (o : Option FaultKind) (next : Next) → Fails why (one_more t e o)
    → Fails why (faulted t o next)
not_grown stop.Memory t e o next h = tt
not_grown (stop.Fault f) t e None next h = absurd cc
not_grown (stop.Fault f) t e (Some kind) next h = cc
