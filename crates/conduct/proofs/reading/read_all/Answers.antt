use Rattle.std.proofs.Common.{◌<◌, length, arith}
use Rattle.conduct.proofs.Behind.{cannot, goes_on, path_here, stops}
use Rattle.conduct.proofs.reading.read_all.Goals as goal

pub returns-in-Err-NoMemory : goal.returns-in-Err-NoMemory
returns-in-Err-NoMemory g c =
    let read = rw c.in-Err-NoMemory.field-0-is at c.in-Err-NoMemory.ensures in
    stops _ _ _ _ read.0 c.loop-path.invariant read.1 read.2

pub returns-in-Err-Refused : goal.returns-in-Err-Refused
returns-in-Err-Refused g c =
    let read = rw c.in-Err-Refused.field-0-is at c.in-Err-Refused.ensures in
    let within : c.loop-path.path-index < length c.args.paths.now = omega (arith, c.loop-path-test.true) in
    rw c.in-Err-Refused.field-0-is (cannot _ _ _ _ _ _ _ read.0 (path_here c.args.paths.now c.loop-path.path-index _ within)
    c.loop-path.invariant read.1 read.2.0 read.2.1)

pub loop-path-preserved : goal.loop-path-preserved
loop-path-preserved g c =
    let read = c.in-Ok.ensures in
    let within : c.loop-path.path-index < length c.args.paths.now = omega (arith, c.loop-path-test.true) in
    goes_on _ _ _ _ _ _ read.0 c.in-Ok.field-0
    (path_here c.args.paths.now c.loop-path.path-index _ within) c.loop-path.invariant read.1 read.2
