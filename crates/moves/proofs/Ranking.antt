-- An assertion with another rank: what refuses it, and what the cells show then.
use Rattle.std.proofs.Common.{◌≡◌, ◌≢◌, ℕ, Bool, true, false, List, [], ◌∷◌, Some, Ok, Err, refl, sym, subst, ◌∙◌}
use Rattle.std.specs.Prelude.{◌==◌, ◌&&◌, nat_le}
use Rattle.std.specs.List.{list_any}
use Rattle.std.proofs.lemmas.Bool.{eq-eqb, ne_eqb}
use Rattle.library.specs.declared.library.Ranked.{Ranked}
use Rattle.library.specs.declared.command.Command.TheVariants.{Move}
use Rattle.library.specs.declared.command.Reply.TheVariants.{Done}
use Rattle.library.specs.declared.reason.Reason.TheVariants.{BadRank, CitedNotLower, CiterNotHigher}
use Rattle.library.specs.Library.{Setting, label_of}
use Rattle.library.specs.Edits.{Edited, done, found, edit, tested, changed, with_rank, move_tests, cites, Tests, cites_not_below}
use Rattle.library.specs.Edits.{cited_not_lower, citer_not_higher}
use Rattle.library.proofs.Places.{found_in}
use Rattle.bodystore.specs.declared.stored.StoredStep.{StoredStep}
use Rattle.cells.specs.State.{State, with_value}
use Rattle.cells.specs.Slots.{rank_cell}
use Rattle.cells.specs.Shows.{AreStoredAs, Shows}
use Rattle.cells.specs.Sight.{Sight, WasWritten, Views, Looks, Onward, after}
use Rattle.cells.specs.Lookups.{ForEachHeld, Finds}
use Rattle.cells.specs.Answers.{Does, IsRefused}
use Rattle.moves.proofs.AnotherRank.{moved_shows}
use Rattle.cells.proofs.Sights.{matches_back, setting_kept}
use Rattle.cells.proofs.Values.{value_there, value_elsewhere}
use Rattle.groundwork.specs.Citing.{TellsNotBelow}
use Rattle.groundwork.proofs.Refusing.{first_refuses, first_passes, of_some, refused}
use Rattle.groundwork.proofs.Seeing.{views_later}
use Rattle.moves.specs.Citers.{TellsCitedUpTo}

-- ---- the tests

module _ (s : Setting) (lib : List Ranked) (label : List ℕ) (rank : ℕ) (e : Ranked) (is : found lib label ≡ Some e) where
  -- some step of its proof cites what isn't below the rank
  abbrev cites_high : Bool
  cites_high = list_any (cites_not_below lib rank) e.assertion.proof

  -- some citer isn't above the rank
  abbrev is_cited_low : Bool
  is_cited_low = list_any (λ f. cites (label_of e) f && nat_le f.rank rank) lib

  abbrev moved : Edited
  moved = done (changed label (with_rank rank) lib)

  -- the tests behind that of the rank
  abbrev tests_behind : Tests
  tests_behind = cited_not_lower lib rank e.assertion.proof ∷ citer_not_higher lib rank (label_of e) ∷ []

  tested_found : edit s lib (Move label rank) ≡ tested (move_tests lib rank e) moved
  tested_found = of_some lib label (λ f. tested (move_tests lib rank f) moved) e is

  move_unranked : rank ≡ 0 → edit s lib (Move label rank) ≡ Err BadRank
  move_unranked none =
      tested_found ∙ first_refuses (rank == 0) BadRank tests_behind moved (eq-eqb rank 0 none)

  module _ (some : rank ≢ 0) where
    tested_ranked : edit s lib (Move label rank) ≡ tested tests_behind moved
    tested_ranked =
        tested_found ∙ first_passes (rank == 0) BadRank tests_behind moved (ne_eqb rank 0 some)

    move_not_above : cites_high ≡ true → edit s lib (Move label rank) ≡ Err CitedNotLower
    move_not_above high = tested_ranked ∙ first_refuses cites_high CitedNotLower (citer_not_higher lib rank (label_of e) ∷ []) moved high

    move_not_below : cites_high ≡ false → is_cited_low ≡ true → edit s lib (Move label rank) ≡ Err CiterNotHigher
    move_not_below high low =
        tested_ranked ∙ first_passes cites_high CitedNotLower (citer_not_higher lib rank (label_of e) ∷ []) moved high
        ∙ first_refuses is_cited_low CiterNotHigher [] moved low

    move_done : cites_high ≡ false → is_cited_low ≡ false → edit s lib (Move label rank) ≡ Ok moved
    move_done high low =
        tested_ranked ∙ first_passes cites_high CitedNotLower (citer_not_higher lib rank (label_of e) ∷ []) moved high
        ∙ first_passes is_cited_low CiterNotHigher [] moved low

-- ---- the assertion in a slot

module _ {O : Type 0} (s t : Sight O) (looks : Looks s t) (i : ℕ) (label : List ℕ) (rank : ℕ) (finds : Finds t label (Some i)) where
  pub refused_unranked : rank ≡ 0 → IsRefused s t (Move label rank) BadRank
  refused_unranked none =
      refused s t (Move label rank) BadRank looks
      (λ st lib v. let at = finds.1 st lib v in move_unranked s.setting lib label rank at.entry at.found none)

  module _ (some : rank ≢ 0) (kept : List StoredStep)
      (stored : ForEachHeld t i (λ st lib e. AreStoredAs t.setting.slots st e.assertion.proof kept)) where
    -- what was told of stored steps is so of the proof of the assertion
    cited_there : (b : Bool) (st : State) (lib : List Ranked) (v : Views t st lib) → TellsNotBelow t rank kept b
        → list_any (cites_not_below lib rank) (finds.1 st lib v).entry.assertion.proof ≡ b
    cited_there b st lib v told =
        let at = finds.1 st lib v in
        let e = at.entry in
        sym (told st lib v e.assertion.proof (stored st lib v e (found_in lib label e at.found).0 at.holds))

    citing_there : (b : Bool) (st : State) (lib : List Ranked) (v : Views t st lib) → TellsCitedUpTo t i rank b
        → list_any (λ f. cites (label_of (finds.1 st lib v).entry) f && nat_le f.rank rank) lib ≡ b
    citing_there b st lib v told =
        let at = finds.1 st lib v in
        let e = at.entry in
        sym (told st lib v e (found_in lib label e at.found).0 at.holds)

    pub refused_not_above : TellsNotBelow t rank kept true → IsRefused s t (Move label rank) CitedNotLower
    refused_not_above high =
        refused s t (Move label rank) CitedNotLower looks (λ st lib v.
        let at = finds.1 st lib v in
        move_not_above s.setting lib label rank at.entry at.found some (cited_there true st lib v high))

    module _ (high : TellsNotBelow t rank kept false) where
      pub refused_not_below : TellsCitedUpTo t i rank true → IsRefused s t (Move label rank) CiterNotHigher
      refused_not_below low =
          refused s t (Move label rank) CiterNotHigher looks (λ st lib v.
          let at = finds.1 st lib v in
          move_not_below s.setting lib label rank at.entry at.found some (cited_there false st lib v high) (citing_there true st lib v low))

      -- its rank cell has the rank then, and nothing else was written
      pub does_move : (u : Sight O) → Onward t u → TellsCitedUpTo t i rank false
          → ((st : State) → after u st ≡ with_value (rank_cell i) rank (after t st)) → WasWritten u (rank_cell i)
          → Does s u (Move label rank) Done
      does_move u onward low put written =
          record {
            edits = λ st lib m v.
                let now = views_later s t st lib looks (matches_back t u st onward m) v in
                let at = finds.1 st lib now in
                let slots = t.setting.slots in
                let before = after t st in
                let next = with_value (rank_cell i) rank (after t st) in
                let more = changed label (with_rank rank) lib in
                let shows : Shows t.setting.slots next (changed label (with_rank rank) lib) =
                moved_shows slots before next lib now.shows now.matches.store now.verifies.library.distinct label i at rank refl
                (value_there (rank_cell i) rank before) (value_elsewhere (rank_cell i) rank before) in (
                  more,
                  move_done s.setting lib label rank at.entry at.found some (cited_there false st lib now high)
                      (citing_there false st lib now low),
                  subst (λ (x : Setting). Shows x.slots (after u st) more) (sym (setting_kept onward))
                      (subst (λ (x : State). Shows t.setting.slots x more) (sym (put st)) shows),
                );
            writes = (rank_cell i, written);
          }
