-- The tree of a proof: it derives its statement in the source just where its listing derives it in the library.
use Rattle.std.proofs.Common.{◌≡◌, ◌+◌, ◌⊎◌, inl, inr, ℕ, false, List, [], ◌∷◌, ◌++◌, length, take, refl, sym, ap, ◌∙◌, subst}
use Rattle.std.proofs.Common.{append-nil, Ok}
use Rattle.std.proofs.Math.Seq.{take-append_seam}
use Rattle.std.specs.Prelude.{Some, ◌↔◌, slice_get}
use Rattle.std.specs.List.{list_any}
use Rattle.std.proofs.lemmas.Option.{same_Some}
use Rattle.mmsyntax.specs.declared.statement.Symbol.{Symbol}
use Rattle.mmsyntax.specs.declared.statement.Step.{Step}
use Rattle.mmsyntax.specs.declared.statement.Step.TheVariants.{Cite}
use Rattle.derivation.specs.declared.fault.ProofFault.{ProofFault}
use Rattle.derivation.specs.declared.fault.ProofFaultKind.TheVariants.{TooLong}
use Rattle.derivation.specs.Derivation.{Citable, Proves, ListForest, DeriveEach, Derives, Gives, arity}
use Rattle.derivation.specs.Derivation as derivation
use Rattle.derivation.specs.Faults.{HasFault}
use Rattle.derivation.proofs.Forests.{tree-runs, Runs-lists}
use Rattle.derivation.proofs.OneFault.{fault-is-one, fault-excludes-proof}
use Rattle.derivation.proofs.Plain.{at_seam}
use Rattle.derivation.proofs.Stuck.{step-fault}
use Rattle.source.specs.Proofs.{Tree}
use Rattle.taking.specs.Lengths.{TakesEnough}
use Rattle.taking.specs.Listings.{listing}
use Rattle.taking.specs.Reasons.{labels_cited}
use Rattle.verifying.specs.Laws.{value}
use Rattle.agreement.specs.Short.{AreShort}
use Rattle.agreement.proofs.Symbols.{one_expression}
use Rattle.agreement.proofs.Trees.{Beside, Goes, is_out}
use Rattle.agreement.proofs.Reaching.{Pushes, IsStuck, forward}
use Rattle.agreement.proofs.Answering.{backward}

module _ (q : Beside) where
  -- ---- the whole

  of_forest : (steps : List Step) (e : List Symbol) → ListForest q.lib q.t q.a steps (e ∷ []) → Proves q.lib q.t q.a steps e
  of_forest steps e f = one_tree f.0 f.1 f.2
    where
      one_tree : (ts : derivation.Trees) → derivation.listings ts ≡ steps → DeriveEach q.lib q.t q.a ts (e ∷ [])
          → Proves q.lib q.t q.a steps e
      one_tree derivation.none l d = absurd cc
      one_tree (derivation.some tr derivation.none) l d =
          let first : d.0 ≡ e = cc in
          (tr, sym (append-nil (derivation.listing tr)) ∙ l, subst (Derives q.lib q.t q.a tr) first d.3)
      one_tree (derivation.some tr (derivation.some us vs)) l d =
          absurd
          (let none : d.1 ≡ [] = cc in
          let some = d.4.2 in
          cc)

  -- where the steps put the statement, they prove it
  of_pushed : (z : List Symbol) → z ≡ q.a.statement → Pushes q q.a.proof z → Proves q.lib q.t q.a q.a.proof q.a.statement
  of_pushed z same push =
      let runs = subst (λ ss. Goes q [] ss (z ∷ [])) (append-nil q.a.proof) (push [] [] (z ∷ []) refl) in
      of_forest q.a.proof q.a.statement
      (subst (λ y. ListForest q.lib q.t q.a q.a.proof (y ∷ [])) same (Runs-lists q.lib q.t q.a q.a.proof (z ∷ []) runs))

  -- where they are stuck, their fault is that an expression is too long
  of_stuck : IsStuck q q.a.proof → (n : ℕ) × HasFault q.lib q.t q.a (record { step = n; kind = TooLong })
  of_stuck s =
      let n = length s.front in
      let front = ap (take n) s.are ∙ take-append_seam s.front (Cite s.label ∷ s.behind) in
      let runs = subst (λ ss. Goes q [] ss s.more) (sym front) (s.runs []) in (
        n + 1,
        step-fault q.lib q.t q.a n s.more (Cite s.label) (record { step = n + 1; kind = TooLong }) runs
            (ap (λ ss. slice_get ss n) s.are ∙ at_seam s.front (Cite s.label) s.behind) refl (s.fails []),
      )

  module _ (tr : Tree) (enough : TakesEnough q.earlier q.x.active tr) (kept : list_any (is_out q) (labels_cited tr) ≡ false)
      (lists : listing q.m q.earlier q.x.active tr ≡ Some q.a.proof) where
    of_statement : (value q.earlier q.x tr ≡ Ok q.x.statement)
        → Proves q.lib q.t q.a q.a.proof q.a.statement ⊎ (IsStuck q q.a.proof × (AreShort q.earlier q.x tr → ⊥))
    of_statement h =
        let r = forward q tr q.a.proof enough kept lists q.x.statement h in
        let same : r.gives ≡ q.a.statement = same_Some r.gives q.a.statement (sym r.is ∙ q.sx.says.statement) in
        elim r.reaches [ inl push ↦ inl (of_pushed r.gives same push) | inr s ↦ inr s ]

    -- a tree whose listing is the proof
    pub tree_agrees
        : Proves q.lib q.t q.a q.a.proof q.a.statement ↔ ((value q.earlier q.x tr ≡ Ok q.x.statement) × AreShort q.earlier q.x tr)
    tree_agrees = (
      λ h.
          let runs = tree-runs q.lib q.t q.a h.0 q.a.statement [] [] (q.a.statement ∷ []) h.2 refl in
          let answer = backward q tr q.a.proof enough kept lists [] [] (q.a.statement ∷ [])
          (subst (λ ss. Goes q [] (ss ++ []) (q.a.statement ∷ [])) h.1 runs) in
          let ends : q.a.statement ∷ [] ≡ answer.gives ∷ [] = answer.runs in
          let same : answer.gives ≡ q.a.statement = cc in
          let one : answer.good.gives ≡ q.x.statement =
          one_expression q.m q.x.active q.t q.sx.taken answer.good.gives q.x.statement q.a.statement
          (answer.good.is ∙ ap (λ z. Some z) same) q.sx.says.statement in
          (answer.good.derives ∙ ap (λ e. Ok e) one, answer.good.short),
      λ h. elim (of_statement h.0) [ inl proves ↦ proves | inr s ↦ absurd (s.1 h.1) ],
    )

    -- where it derives the statement, no other fault is found but that an expression is too long
    pub tree_long : (value q.earlier q.x tr ≡ Ok q.x.statement) → (fault : ProofFault) → HasFault q.lib q.t q.a fault → fault.kind ≡ TooLong
    tree_long h fault has = elim (of_statement h) [
      | inl proves ↦ absurd (fault-excludes-proof q.lib q.t q.a fault has proves)
      | inr s ↦
          let long = of_stuck s.0 in
          ap (λ (f : ProofFault). f.kind) (fault-is-one q.lib q.t q.a fault (record { step = long.0; kind = TooLong }) has long.1)
    ]
