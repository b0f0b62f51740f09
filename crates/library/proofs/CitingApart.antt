-- No proof that checks cites a label L.k, where its own is L: it cites labels of the library alone, and those are apart.
use Rattle.std.proofs.Common.{◌≡◌, ℕ, List, [], map, refl, subst}
use Rattle.std.specs.List.{All, Contains}
use Rattle.std.proofs.lemmas.List.Elements.{All-contains, All-nil, All-same, All-weaker}
use Rattle.mmsyntax.specs.declared.statement.Assertion.{Assertion}
use Rattle.mmsyntax.specs.declared.statement.Kind.{Kind}
use Rattle.mmsyntax.specs.declared.statement.Kind.TheVariants.{Axiom, Theorem}
use Rattle.mmsyntax.specs.declared.statement.Step.{Step}
use Rattle.mmsyntax.specs.declared.statement.Step.TheVariants.{Float, Hyp, Cite}
use Rattle.mmsyntax.specs.Assertions.{CitesApart}
use Rattle.mmsyntax.specs.Dotted.{ClashNowhere}
use Rattle.library.specs.declared.library.Ranked.{Ranked}
use Rattle.library.specs.Library.{Setting, label_of, lower, citable}
use Rattle.library.proofs.Derivations.{NamesOne, steps_named}
use Rattle.library.proofs.Filtered.{contains_mapped}
use Rattle.library.proofs.Frames.{frame_found}
use Rattle.library.proofs.Lower.{lower_all}
use Rattle.library.proofs.Showing.{ChecksIn}

module _ (s : Setting) (lib : List Ranked) (apart : ClashNowhere (map label_of lib)) where
  step_apart : (rank : ℕ) (a : Assertion) → Contains (map label_of lib) a.label → (step : Step)
      → NamesOne (citable s lib rank) s.prelude a step → CitesApart a.label step
  step_apart rank a own (Float j) h = tt
  step_apart rank a own (Hyp n) h = tt
  step_apart rank a own (Cite w) h =
      let Labels = Contains (map label_of lib) in
      let found = frame_found s.prelude (lower lib rank) w h.0 h.1 in
      let all = lower_all (λ b. Labels b.label) lib rank (λ e at lt. contains_mapped label_of lib e at) in
      apart a.label w own (subst Labels found.2 (All-contains (λ b. Labels b.label) (lower lib rank) found.0 all found.1))

  citing_apart : (e : Ranked) (kind : Kind) → e.assertion.kind ≡ kind → Contains (map label_of lib) (label_of e)
      → (e.assertion.kind ≡ Axiom → e.assertion.proof ≡ []) → ChecksIn s lib e → All (CitesApart (label_of e)) e.assertion.proof
  citing_apart e Axiom is own none h = All-same (CitesApart (label_of e)) e.assertion.proof [] (none is) (All-nil _)
  citing_apart e Theorem is own none h =
      let a = e.assertion in
      All-weaker (NamesOne (citable s lib e.rank) s.prelude a) (CitesApart a.label) (step_apart e.rank a own) a.proof
      (steps_named (citable s lib e.rank) s.prelude a a.proof a.statement (h is))

  -- the proof of what has a label of the library
  pub proof_apart : (e : Ranked) → Contains (map label_of lib) (label_of e) → (e.assertion.kind ≡ Axiom → e.assertion.proof ≡ [])
      → ChecksIn s lib e → All (CitesApart (label_of e)) e.assertion.proof
  proof_apart e own none h = citing_apart e e.assertion.kind refl own none h
