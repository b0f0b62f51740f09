use Rattle.std.proofs.Common.{◌≡◌, List, [], ◌∷◌, ◌++◌, length, length-append, map, ap, sym, subst, ◌∙◌, inl, inr, arith}
use Rattle.std.proofs.lemmas.List.{map-append}
use Rattle.std.specs.Iterator.Adapters.{zip_first, zip_second}
use Rattle.std.specs.Vec.Iter.{into_iter_items, into_iter_len}
use Rattle.claims.specs.Claims.{Claimant, IsClaimantOf}
use Rattle.transaction.specs.Members.{Member, IsSessionOf}
use Rattle.workers.specs.declared.team.ShiftOf.{ShiftOf}
use Rattle.workers.specs.Shifts.{ArePromised}
use Rattle.workers.proofs.Teams.{promised_more, walked_next, walked_more, walked_all}
use Rattle.workers.proofs.team.start_all.Goals as goal

pub loop-session-preserved : goal.loop-session-preserved
loop-session-preserved g c =
    let done : List (Member × Claimant) = c.loop-session.yielded in
    let session : Member = c.in-Some.session in
    let claimant : Claimant = c.in-Some.claimant in
    let pair : Member × Claimant = (session, claimant) in
    let was = c.loop-session.invariant in
    let handles = c.loop-session.handles.items in
    let handle = c.in_ok-start.field-0 in
    let promises : List ShiftOf = map (λ h. h.promise) handles in
    let promise : ShiftOf = handle.promise in
    let pushed : map (λ h. h.promise) c.push_reserved.new.self.items ≡ promises ++ promise ∷ [] =
    ap (map (λ h. h.promise)) c.push_reserved.ensures.items ∙ map-append (λ h. h.promise) handles (handle ∷ []) in
    let steps = c.in-Some.ensures.steps in
    let more = length-append done (pair ∷ []) in
    let many = c.push_reserved.ensures.len in
    let wide = c.push_reserved.ensures.capacity in
    let sessions : List Member = map (λ p. p.0) (done ++ pair ∷ []) in
    let claimants : List Claimant = map (λ p. p.1) (done ++ pair ∷ []) in
    let first = was.3 in
    let second = was.4 in
    let long = was.5 in
    let room = was.6 in
    let fewer = steps.0.1 in
    let fewer' = steps.1.1 in (
      subst (λ (ps : List ShiftOf). ArePromised c.args.shop.scripts.now sessions claimants ps) (sym {A = List ShiftOf} pushed)
          (promised_more c.args.shop.scripts.now done promises session claimant promise was.0
          c.in_ok-start.ensures.scripts c.in_ok-start.ensures.session c.in_ok-start.ensures.claimant),
      walked_more (λ (p : Member × Claimant). p.0) done pair _ _ _ was.1 steps.0.0,
      walked_more (λ (p : Member × Claimant). p.1) done pair _ _ _ was.2 steps.1.0,
      omega (arith, more, first, fewer),
      omega (arith, more, second, fewer'),
      omega (arith, more, many, long),
      omega (arith, room, wide),
    )

pub returns : goal.returns
returns g c =
    let done : List (Member × Claimant) = c.loop-session.yielded in
    let was = c.loop-session.invariant in
    let first = was.3 in
    let second = was.4 in
    let pairs = c.requires.pairs in
    let all : length done ≡ length c.args.sessions.items =
    elim c.in-None.ensures.steps [
      | inl left ↦ let none = left.1.0 in omega (arith, first, none)
      | inr left ↦ let none = left.1.0 in omega (arith, second, pairs, none)
    ] in
    let promises = map (λ h. h.promise) c.loop-session.handles.items in
    subst (λ (ms : List Member). ArePromised c.args.shop.scripts.now ms c.args.claimants.items promises)
    (walked_all (λ (p : Member × Claimant). p.0) done _ _ was.1 all)
    (subst (λ (cs : List Claimant). ArePromised c.args.shop.scripts.now (map (λ d. d.0) done) cs promises)
    (walked_all (λ (p : Member × Claimant). p.1) done _ _ was.2 (omega (arith, all, pairs))) was.0)

pub start-requires-clause-own : goal.start-requires-clause-own
start-requires-clause-own g c κs within =
    walked_next (IsSessionOf c.args.shop.library.now) _ _ _ _ c.in-Some.session c.loop-session.invariant.1 c.in-Some.ensures.steps.0.0
    c.requires.own

pub start-requires-clause-claims : goal.start-requires-clause-claims
start-requires-clause-claims g c κs within =
    walked_next (IsClaimantOf c.args.shop.numbers.now) _ _ _ _ c.in-Some.claimant c.loop-session.invariant.2 c.in-Some.ensures.steps.1.0
    c.requires.claims

pub loop-session-smaller : goal.loop-session-smaller
loop-session-smaller g c =
    let first = c.in-Some.ensures.steps.0.1 in
    let second = c.in-Some.ensures.steps.1.1 in
    omega (arith, first, second)

pub loop-session-init : goal.loop-session-init
loop-session-init g c =
    let none = c.in_ok-handles.ensures.items in
    let wide = c.in_ok-handles.ensures.capacity in
    let long = c.len.ensures in
    let same = c.into_iter-session-iterator.ensures.into_iter_gives in
    let first = ap (λ z. zip_first z) same ∙ c.zip-session-items.ensures.first in
    let second = c.zip-session-items.ensures.second in
    let fewer = ap (λ i. into_iter_len i) first ∙ c.into_iter.ensures.len in
    let fewer' = ap (λ z. into_iter_len (zip_second z)) same ∙ second.1 in (
      rw none tt,
      ap (λ i. into_iter_items i) first ∙ c.into_iter.ensures.rest,
      ap (λ z. into_iter_items (zip_second z)) same ∙ second.0,
      omega (arith, fewer),
      omega (arith, fewer'),
      ap length none,
      omega (arith, wide, long),
    )
