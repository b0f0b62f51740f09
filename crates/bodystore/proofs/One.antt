-- A body is of one statement, or of one list of steps.
use Rattle.std.proofs.Common.{◌≡◌, ℕ, List, [], ◌∷◌, ◌++◌, length, map, refl, sym, ap, ◌∙◌, arith}
use Rattle.std.specs.Prelude.{All}
use Rattle.std.specs.List.{flat_map}
use Rattle.std.proofs.lemmas.List.{append_assoc, append-nil, length-map}
use Rattle.std.proofs.lemmas.List.Concat.{flat_map_single}
use Rattle.std.proofs.lemmas.List.Elements.{All-head, All-tail}
use Rattle.mmsyntax.specs.declared.statement.Symbol.{Symbol}
use Rattle.mmsyntax.specs.declared.statement.Symbol.TheVariants.{Const, Var}
use Rattle.mmsyntax.specs.declared.statement.Kind.{Kind}
use Rattle.mmsyntax.specs.declared.statement.Kind.TheVariants.{Axiom, Theorem}
use Rattle.bodystore.specs.declared.stored.StoredStep.{StoredStep}
use Rattle.bodystore.specs.declared.stored.StoredStep.TheVariants.{Float, Hyp, Slot}
use Rattle.bodystore.specs.Bodies.{symbol_word, kind_word, pair_word, step_word, expression_words, expressions_words, IsSmallPair}
use Rattle.bodystore.specs.Laws.{StatementBodiesAreOne, ProofBodiesAreOne}

-- ---- words

kind_one : (x y : Kind) → kind_word x ≡ kind_word y → x ≡ y
kind_one Axiom Axiom h = refl
kind_one Axiom Theorem h = absurd (omega (arith, h))
kind_one Theorem Axiom h = absurd (omega (arith, h))
kind_one Theorem Theorem h = refl

pair_one : (p q : ℕ × ℕ) → IsSmallPair p → IsSmallPair q → pair_word p ≡ pair_word q → p ≡ q
pair_one p q small_p small_q h =
    let a = small_p.1 in
    let b = small_q.1 in
    let first : p.0 ≡ q.0 = omega (arith, h, a, b) in
    let second : p.1 ≡ q.1 = omega (arith, h, a, b) in
    λ i. (first i, second i)

symbol_one : (x y : Symbol) → symbol_word x ≡ symbol_word y → x ≡ y
symbol_one (Const i) (Const j) h = ap Const (omega (arith, h))
symbol_one (Const i) (Var j) h = absurd (omega (arith, h))
symbol_one (Var i) (Const j) h = absurd (omega (arith, h))
symbol_one (Var i) (Var j) h = ap Var (omega (arith, h))

step_one : (x y : StoredStep) → step_word x ≡ step_word y → x ≡ y
step_one (Float i) (Float j) h = ap Float (omega (arith, h))
step_one (Float i) (Hyp j) h = absurd (omega (arith, h))
step_one (Float i) (Slot j) h = absurd (omega (arith, h))
step_one (Hyp i) (Float j) h = absurd (omega (arith, h))
step_one (Hyp i) (Hyp j) h = ap Hyp (omega (arith, h))
step_one (Hyp i) (Slot j) h = absurd (omega (arith, h))
step_one (Slot i) (Float j) h = absurd (omega (arith, h))
step_one (Slot i) (Hyp j) h = absurd (omega (arith, h))
step_one (Slot i) (Slot j) h = ap Slot (omega (arith, h))

-- ---- lists

-- as many items are the same where their words begin the same list, and so is what is behind them
module _ {X : Type 0} (P : X → Type 0) where
  groups_one : (f : X → List ℕ) → ((x y : X) (r t : List ℕ) → P x → P y → f x ++ r ≡ f y ++ t → (x ≡ y) × (r ≡ t))
      → (xs ys : List X) (r t : List ℕ) → All P xs → All P ys → length xs ≡ length ys → flat_map f xs ++ r ≡ flat_map f ys ++ t
      → (xs ≡ ys) × (r ≡ t)
  groups_one f one [] [] r t in_xs in_ys l h = (refl, h)
  groups_one f one [] (y ∷ ys) r t in_xs in_ys l h = absurd (omega (arith, l))
  groups_one f one (x ∷ xs) [] r t in_xs in_ys l h = absurd (omega (arith, l))
  groups_one f one (x ∷ xs) (y ∷ ys) r t in_xs in_ys l h =
      let apart = sym (append_assoc (f x) (flat_map f xs) r) ∙ h ∙ append_assoc (f y) (flat_map f ys) t in
      let a = one x y _ _ (All-head P x xs in_xs) (All-head P y ys in_ys) apart in
      let b = groups_one f one xs ys r t (All-tail P x xs in_xs) (All-tail P y ys in_ys) (omega (arith, l)) a.1 in
      ((λ i. a.0 i ∷ b.0 i), b.1)

  words_one : (f : X → ℕ) → ((x y : X) → P x → P y → f x ≡ f y → x ≡ y) → (xs ys : List X) (r t : List ℕ) → All P xs → All P ys
      → length xs ≡ length ys → map f xs ++ r ≡ map f ys ++ t → (xs ≡ ys) × (r ≡ t)
  words_one f one xs ys r t in_xs in_ys l h =
      groups_one (λ x. f x ∷ [])
      (λ x y r t in_x in_y same. (one x y in_x in_y (let a : f x ≡ f y = cc in a), let b : r ≡ t = cc in b))
      xs ys r t in_xs in_ys l
      (ap (λ ws. ws ++ r) (flat_map_single f xs) ∙ h ∙ ap (λ ws. ws ++ t) (sym (flat_map_single f ys)))

-- any value
abbrev Any : {X : Type 0} → X → Type 0
Any x = Unit {0}

expression_one : (e f : List Symbol) (r t : List ℕ) → Any e → Any f → expression_words e ++ r ≡ expression_words f ++ t → (e ≡ f) × (r ≡ t)
expression_one e f r t any_e any_f h =
    let a : length e ≡ length f = cc in
    let b : map symbol_word e ++ r ≡ map symbol_word f ++ t = cc in
    words_one Any symbol_word (λ x y any_x any_y. symbol_one x y) e f r t (λ k d lt. tt) (λ k d lt. tt) a b

-- ---- bodies

pub statement_one : StatementBodiesAreOne
statement_one s t small_s small_t h =
    let kinds : kind_word s.kind ≡ kind_word t.kind = cc in
    let pair_counts : length s.pairs ≡ length t.pairs = cc in
    let hyp_counts : length s.hyps ≡ length t.hyps = cc in
    let rest : map pair_word s.pairs ++ (expressions_words s.hyps ++ expression_words s.statement)
    ≡ map pair_word t.pairs ++ (expressions_words t.hyps ++ expression_words t.statement) = cc in
    let kind = kind_one _ _ kinds in
    let pairs = words_one IsSmallPair pair_word pair_one s.pairs t.pairs _ _ small_s.pairs small_t.pairs pair_counts rest in
    let hyps = groups_one Any expression_words expression_one s.hyps t.hyps _ _ (λ k d lt. tt) (λ k d lt. tt) hyp_counts pairs.1 in
    let last = append-nil (expression_words s.statement) ∙ hyps.1 ∙ sym (append-nil (expression_words t.statement)) in
    let statement = expression_one s.statement t.statement [] [] tt tt last in
    λ i. record { kind = kind i; pairs = pairs.0 i; hyps = hyps.0 i; statement = statement.0 i }

pub proof_one : ProofBodiesAreOne
proof_one steps others h =
    let counts : length steps ≡ length others = sym (length-map steps step_word) ∙ ap (λ ws. length ws) h ∙ length-map others step_word in
    (words_one Any step_word (λ x y any_x any_y. step_one x y) steps others [] [] (λ k d lt. tt) (λ k d lt. tt) counts
    (ap (λ ws. ws ++ []) h)).0
