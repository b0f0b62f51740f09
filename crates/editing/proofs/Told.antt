-- The outcomes of scripts as the library's whole history has them; and why there may be no such history.
use Rattle.std.proofs.Common.{◌≡◌, ◌+◌, ◌<◌, ◌≤◌, ℕ, min, true, is_some, Option, Some, None, List, [], ◌∷◌, ◌++◌, length, length-append, inl, inr, refl, sym, ap, subst, ◌∙◌, arith}
use Rattle.std.specs.Prelude.{All}
use Rattle.std.specs.List.{AllZip}
use Rattle.std.proofs.lemmas.List.Elements.{All-nil, All-cons, All-head, All-tail, All-weaker}
use Rattle.library.specs.declared.command.Command.{Command}
use Rattle.library.specs.Histories.{Entry}
use Rattle.ranges.specs.Ranges.{Has}
use Rattle.ranges.proofs.Members.{all_has, has_mapped}
use Rattle.tlwords.specs.declared.closing.ClosedWords.{ClosedWords}
use Rattle.tlwords.specs.Seen.{Call}
use Rattle.lawful.specs.declared.notes.Given.{Given}
use Rattle.lawful.specs.declared.notes.Note.{Note}
use Rattle.lawful.specs.Lawful.{setting_given, first_library}
use Rattle.lawful.specs.History.{AllAgree}
use Rattle.transaction.specs.declared.outcome.Outcome.{Outcome}
use Rattle.transaction.specs.declared.outcome.Outcome.TheVariants as outcome
use Rattle.lending.specs.Lent.{Pass, ExceedsRoom}
use Rattle.transaction.specs.Members.{Home, Member, IsSessionOf, IsSoundMember}
use Rattle.transaction.specs.Openings.{IsNewSession}
use Rattle.workers.specs.Works.{ScriptAgrees, AreSharesOf, IsHandedBack, ToldBy, all_of}
use Rattle.finishing.specs.Finishes.{AreItsWords}
use Rattle.editing.specs.Edits.{IsShareIn, ToldIn, FullIn, TellsOf}

-- as many sessions as shares
pub as_many_shares : (g : Given) (scripts : List (List (List Command))) (rows : List (List Outcome)) (before after : List Member)
    (shares : List (List ℕ)) → AreSharesOf g scripts rows before after shares → length shares ≡ length before
as_many_shares g scripts rows [] [] [] run = refl
as_many_shares g scripts rows (m ∷ ms) (n ∷ ns) (x ∷ xs) run = let h = as_many_shares g scripts rows ms ns xs run.1 in omega arith
as_many_shares g scripts rows _ _ _ run = absurd run

-- ---- a full store

past_room : (room tail n count : ℕ) → room < n + count → n + min count (room + 1) ≤ tail → room < tail
past_room room tail n count above behind = grind arith

module _ (words : ClosedWords) (m : Member) (room : words.room ≡ m.known.home.room) (exceeds : ExceedsRoom m.known)
    (behind : (n count : ℕ) → m.known.full ≡ Some (n, count) → n + min count (words.room + 1) ≤ words.tail) where
  past_tail : (found : Option (ℕ × ℕ)) → m.known.full ≡ found → is_some found ≡ true → words.room < words.tail
  past_tail None is some = absurd cc
  past_tail (Some (n, count)) is some =
      let above = exceeds n count is in
      past_room words.room words.tail n count (omega (arith, above, room)) (behind n count is)

  -- where the session tells it, the tail is past the room
  full_in : (o : Outcome) → ToldBy m o → FullIn words o
  full_in outcome.StoreFull told = past_tail m.known.full refl told
  full_in _ told = tt

-- each session that is handed back stands
sound_after : (before after : List Member) → AllZip IsHandedBack before after → (m : Member) → Has m after → IsSoundMember m
sound_after [] [] back m has = absurd has
sound_after [] (n ∷ ns) back m has = absurd back
sound_after (x ∷ xs) [] back m has = absurd back
sound_after (x ∷ xs) (n ∷ ns) back m (inl same) = subst IsSoundMember (sym same) back.0.0.stands
sound_after (x ∷ xs) (n ∷ ns) back m (inr has) = sound_after xs ns back.1 m has

-- ---- shares

module _ (g : Given) (h : List Entry) (scripts : List (List (List Command))) (rows : List (List Outcome)) where
  -- the shares of sessions that had seen nothing, as a history has them with which the calls of all agree
  pub shares_told : (before after : List Member) (shares : List (List ℕ)) → All (λ (m : Member). m.known.seen.history ≡ []) before
      → All (λ (m : Member). AllAgree g h m.known.mine) after → AreSharesOf g scripts rows before after shares
      → All (IsShareIn (setting_given g) (first_library g) h scripts rows) shares
  shares_told [] [] [] none agree run = All-nil (IsShareIn (setting_given g) (first_library g) h scripts rows)
  shares_told (m ∷ ms) (n ∷ ns) (x ∷ xs) none agree run =
      let unseen = λ (m : Member). m.known.seen.history ≡ [] in
      let agrees = λ (m : Member). AllAgree g h m.known.mine in
      let own : IsShareIn (setting_given g) (first_library g) h scripts rows x = record {
        rising = run.0.rising;
        agrees =
            subst (λ place. ScriptAgrees (setting_given g) (first_library g) h place (all_of scripts x) (all_of rows x))
            (ap length (All-head unseen m ms none)) (run.0.run.agrees h (All-head agrees n ns agree));
      } in
      All-cons (IsShareIn (setting_given g) (first_library g) h scripts rows) x xs own
      (shares_told ms ns xs (All-tail unseen m ms none) (All-tail agrees n ns agree) run.1)
  shares_told _ _ _ none agree run = absurd run

  told_in : (m : Member) → length m.known.drawn ≤ length h → (o : Outcome) → ToldBy m o → ToldIn h o
  told_in m few outcome.NumbersUsed told = omega (arith, few, told)
  told_in m few _ told = tt

  -- what is so of each outcome where a session tells why it gave up what it gave up, is so of its share
  share_all : (P : Outcome → Type 0) (before after : List Member) (shares : List (List ℕ))
      → ((m : Member) → Has m after → (o : Outcome) → ToldBy m o → P o)
      → AreSharesOf g scripts rows before after shares → (share : List ℕ) → Has share shares → All P (all_of rows share)
  share_all P [] [] [] so run share has = absurd has
  share_all P (m ∷ ms) (n ∷ ns) (x ∷ xs) so run share (inl same) =
      subst (λ (z : List ℕ). All P (all_of rows z)) (sym same)
      (All-weaker (ToldBy n) P (so n (inl refl)) (all_of rows x) run.0.run.told)
  share_all P (m ∷ ms) (n ∷ ns) (x ∷ xs) so run share (inr has) = share_all P ms ns xs (λ z in_it. so z (inr in_it)) run.1 share has
  share_all P _ _ _ so run share has = absurd run

  -- what a session tells, the history shows, where it has an entry for each number that was drawn
  pub share_told : (before after : List Member) (shares : List (List ℕ)) → ((m : Member) → Has m after → length m.known.drawn ≤ length h)
      → AreSharesOf g scripts rows before after shares → (share : List ℕ) → Has share shares → All (ToldIn h) (all_of rows share)
  share_told before after shares few = share_all (ToldIn h) before after shares (λ m has. told_in m (few m has))

  -- and the words at the end, in whose store it found too little room
  pub share_full : (home : Home) (words : ClosedWords) (before after : List Member)
      (shares : List (List ℕ)) → AreItsWords home after words → words.room ≡ home.words.room → All (IsSessionOf home) after
      → AllZip IsHandedBack before after → AreSharesOf g scripts rows before after shares → (share : List ℕ) → Has share shares
      → All (FullIn words) (all_of rows share)
  share_full home words before after shares its room own back =
      share_all (FullIn words) before after shares (λ m has.
      let home_is : m.known.home ≡ home.words = all_has (IsSessionOf home) after m own has in
      full_in words m (room ∙ ap (λ h. h.room) (sym home_is)) (sound_after before after back m has).exceeds
      (its.each m.known (has_mapped (λ (z : Member). z.known) after m has)).found)

-- what each session that was new tells of its share at the end
pub shares_end : (home : Home) (g : Given) (scripts : List (List (List Command))) (rows : List (List Outcome)) (before after : List Member)
    (shares : List (List ℕ)) → All (IsNewSession home) before → AreSharesOf g scripts rows before after shares
    → AllZip (TellsOf home scripts rows) shares after
shares_end home g scripts rows [] [] [] new run = tt
shares_end home g scripts rows (m ∷ ms) (n ∷ ns) (x ∷ xs) new run =
    let is = All-head (IsNewSession home) m ms new in
    let ran = run.0.run.ran in
    let size = length-append ran.places m.known.clocks in
    let loaded = ap length ran.loaded in
    let many = ran.many in
    let own : TellsOf home scripts rows x n = record {
      began = m;
      new = is;
      submitted = run.0.run.submitted;
      told = run.0.run.told;
      ran = omega (arith, size, loaded, many);
      answers = ap length (ran.made ∙ ap (λ (cs : List (Call Note)). cs ++ ran.calls) (ap (λ (k : Pass). k.mine) is.known)) ∙ ran.answers;
    } in
    (own, shares_end home g scripts rows ms ns xs (All-tail (IsNewSession home) m ms new) run.1)
shares_end home g scripts rows _ _ _ new run = absurd run
