use Rattle.std.proofs.Common.{◌≡◌, List, [], ◌∷◌, ◌++◌, length-append, length, map, ap, sym, subst, ◌∙◌, arith}
use Rattle.std.specs.List.{AllZip}
use Rattle.std.proofs.lemmas.Iterator.Adapters.{YieldsList-from_vec}
use Rattle.std.proofs.lemmas.Iterator.Consumers.{YieldsList-turn, YieldsList-end}
use Rattle.std.proofs.lemmas.List.{map-append, map-id}
use Rattle.std.proofs.lemmas.Slice.Zip.{all_zipped_more}
use Rattle.workers.specs.declared.shift.Shift.{Shift}
use Rattle.workers.specs.declared.team.ShiftOf.{ShiftOf}
use Rattle.workers.specs.Shifts.{IsKept}
use Rattle.workers.proofs.team.wait_for_all.Goals as goal

pub loop-handle-preserved : goal.loop-handle-preserved
loop-handle-preserved g c =
    let done = c.loop-handle.yielded in
    let handle = c.in-Some.handle in
    let shift : Shift = c.in_ok-join.field-0 in
    let shifts : List Shift = c.loop-handle.shifts.items in
    let promises : List ShiftOf = map (λ h. h.promise) done in
    let promised : map (λ h. h.promise) (done ++ handle ∷ []) ≡ promises ++ handle.promise ∷ [] =
    map-append (λ h. h.promise) done (handle ∷ []) in
    let pushed : c.push_reserved.new.self.items ≡ shifts ++ shift ∷ [] = c.push_reserved.ensures.items in
    let was = c.loop-handle.invariant in
    let long = was.1 in
    let room = was.2 in
    let more = length-append done (handle ∷ []) in
    let many = c.push_reserved.ensures.len in
    let wide = c.push_reserved.ensures.capacity in (
      subst (λ (ss : List Shift). AllZip IsKept (map (λ h. h.promise) (done ++ handle ∷ [])) ss) (sym {A = List Shift} pushed)
          (subst (λ (ps : List ShiftOf). AllZip IsKept ps (shifts ++ shift ∷ [])) (sym {A = List ShiftOf} promised)
          (all_zipped_more IsKept promises shifts handle.promise shift was.0 c.in_ok-join.ensures)),
      omega (arith, more, many, long),
      omega (arith, room, wide),
    )

pub loop-handle-init : goal.loop-handle-init
loop-handle-init g c =
    let none = c.in_ok-shifts.ensures.items in
    let wide = c.in_ok-shifts.ensures.capacity in
    let long = c.len.ensures in
    (rw none tt, ap length none, omega (arith, wide, long))

pub push_reserved-requires : goal.push_reserved-requires
push_reserved-requires g c =
    let l = c.loop-handle in
    let given = c.into_iter-handle-iterator.ensures.into_iter_gives in
    let all = YieldsList-from_vec c.args.handles.items given.0 (given.1 ∙ c.args.handles.ok.0) in
    let turn = YieldsList-turn all l.yielded l.handle-iterator l.yielded_by
    c.next.result c.next.new.self c.in-Some.handle c.in-Some.is c.next.ensures.steps in
    omega (arith, turn.0, l.invariant.1, l.invariant.2, l.shifts.ok.0)

pub returns : goal.returns
returns g c =
    let l = c.loop-handle in
    let given = c.into_iter-handle-iterator.ensures.into_iter_gives in
    let all = YieldsList-from_vec c.args.handles.items given.0 (given.1 ∙ c.args.handles.ok.0) in
    let end = YieldsList-end all l.yielded l.handle-iterator l.yielded_by
    c.next.result c.next.new.self c.in-None.is c.next.ensures.steps in
    subst (λ hs. AllZip IsKept (map (λ h. h.promise) hs) l.shifts.items) (sym (map-id l.yielded) ∙ end.0) l.invariant.0
