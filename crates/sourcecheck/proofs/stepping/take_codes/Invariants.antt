-- What the loop of `take_codes` keeps.
use Rattle.std.proofs.Common.{◌≡◌, ◌≤◌, ℕ, false, List, map, take}
use Rattle.mmtext.specs.Words.{Word}
use Rattle.source.specs.Scopes.{Assertion}
use Rattle.std.specs.List.{list_any}
use Rattle.source.specs.Letters.{is_absent}
use Rattle.source.specs.Proofs.{step_of}
use Rattle.sourcecheck.specs.Shown.{Stands, AreNamed, Reached}
use Rattle.sourcecheck.proofs.stepping.take_codes.Given as goal

abbrev pub invariant-loop-code : goal.invariant-loop-code
invariant-loop-code l = record {
  few : l.step ≤ l.code-index;
  reached : (name : ℕ → Word) (earlier : List Assertion) (x : Assertion) (labels : List Word) → Stands name earlier x l.frames l.thesis
      → AreNamed name earlier x labels l.named → list_any is_absent l.codes ≡ false
      → Reached name earlier x (map (step_of labels) (take l.code-index l.codes)) l.stack l.step;
}
