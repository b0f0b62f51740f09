use Rattle.std.proofs.Common.{◌≡◌, ◌-◌, length, take, drop, arith}
use Rattle.std.proofs.lemmas.List.{take_rest, length-drop}
use Rattle.export.proofs.Appended.{Appends-more}
use Rattle.export.proofs.writing.write_bytes.Goals as goal

pub loop-written-preserved : goal.loop-written-preserved
loop-written-preserved g c =
    let bytes = c.args.bytes.now in
    let written = c.loop-written.written in
    let count = c.in-Ok.count in
    let rest : take (length bytes - written) (drop written bytes) ≡ drop written bytes = take_rest bytes written in
    let took = rw rest at c.in-Ok.ensures.bytes in
    record {
      within = omega (arith, rw rest at c.in-Ok.ensures.bound, length-drop written bytes);
      front = Appends-more (g.W.Write.contents c.args.writer.now) _ _ written count bytes c.loop-written.invariant.front took;
    }
