-- What the loop of `described_in` keeps: what is described so far, and what the parts that are left describe.
use Rattle.std.proofs.Common.{◌≡◌, ◌≤◌, ◌++◌, map, drop}
use Rattle.expanding.specs.Bars.{seen_part}
use Rattle.expanding.specs.Descriptions.{fronts, descriptions_behind}
use Rattle.expanding.specs.InFront.{FindsFronts, seen_described}
use Rattle.expanding.proofs.described.described_in.Given as goal

abbrev pub invariant-loop-part : goal.invariant-loop-part
invariant-loop-part l = record {
  finds : FindsFronts l.fronts (fronts l.text);
  few : l.begun ≤ l.part-index;
  told : map seen_described l.found.items ++ descriptions_behind (fronts l.text) l.begun (map seen_part (drop l.part-index l.part-items))
      ≡ descriptions_behind (fronts l.text) 0 (map seen_part l.part-items);
}
