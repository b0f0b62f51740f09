-- Histories that were seen, as they grow.
use Rattle.std.proofs.Common.{◌≡◌, ◌≢◌, ℕ, zero, suc, ◌*◌, ◌<◌, ◌≤◌, ◌⊎◌, inl, inr, Some, List, [], ◌∷◌, ◌++◌, length, slice_get, sym, refl}
use Rattle.std.proofs.Common.{ap, ◌∙◌, subst, arith}
use Rattle.tlcore.specs.History.{WordsEntry, Deed, Nothing, Will, Did, EntryGrows, Grows, version_over, version_after, deed}
use Rattle.tlcore.specs.Seats.{Seat}
use Rattle.tlcore.proofs.Deeds.{did, version-same, up_to}
use Rattle.tlcore.proofs.Growth.{deed-kept, get_exists, Grows-refl, Grows-trans, One-kept}
use Rattle.tlcore.proofs.Lists.{get_within}
use Rattle.tlcore.proofs.Words.{landed_not_open}
use Rattle.ranges.proofs.Grown.{names_grow}
use Rattle.ranges.specs.Ranges.{Range, Within}
use Rattle.ranges.specs.Pairs.{Pairs}
use Rattle.tlwords.specs.Terms.{Terms, Permits}
use Rattle.tlwords.specs.Seen.{Work, Call, Committed, Answered, Seen, IsSettled, SeenGrows, IsDone, CallAgrees, Agree}
use Rattle.tlwords.specs.Rule.{IsFresh, LookIsFresh, EntriesAre}

pub settled_grows : (g h : List WordsEntry) (i : ℕ) → Grows g h → IsSettled g i → IsSettled h i
settled_grows g h i r s =
    let b : (f : WordsEntry) × (slice_get h i ≡ Some f) × EntryGrows s.0 f = r.1 i s.0 s.1 in
    (b.0, b.1, λ e. s.2 (sym (b.2.2 s.2) ∙ e))

over_same : (x : Deed) (n v k : ℕ) → version_over x (suc n) v ≤ k → k ≤ n → version_over x (suc n) v ≡ v
over_same Nothing n v k l m = refl
over_same (Will a) n v k l m = refl
over_same (Did a) n v k l m = absurd (omega arith)

-- from the last writer on the version stays
pub version_settled : (d : ℕ → Deed) (n k : ℕ) → version_after d n ≤ k → k ≤ n → version_after d k ≡ version_after d n
version_settled d zero k l m = let e : k ≡ 0 = omega arith in ap (version_after d) e
version_settled d (suc n) k l m = go (up_to k n m) (version_settled d n k)
  where
    go : (k ≡ suc n) ⊎ (k ≤ n) → (version_after d n ≤ k → k ≤ n → version_after d k ≡ version_after d n)
        → version_after d k ≡ version_after d (suc n)
    go (inl e) ih = ap (version_after d) e
    go (inr b) ih =
        let same : version_after d (suc n) ≡ version_after d n = over_same (d n) n (version_after d n) k l b in
        ih (omega (arith, same, l)) b ∙ sym same

pub fresh_grows : (g h : List WordsEntry) (rv c word : ℕ) → Grows g h → rv ≤ length g → IsFresh g rv c word → IsFresh h rv c word
fresh_grows g h rv c word r l f = (
  f.0 ∙ sym (ap (λ (n : ℕ). 2 * n) (version-same (deed g c) (deed h c) rv (λ i m. ap did (same i m)))),
  λ i v m e. f.1 i v m (sym (same i m) ∙ e),
)
  where
    same : (i : ℕ) → i < rv → deed h c i ≡ deed g c i
    same i m = deed-kept g h c i r (omega arith) (λ v e. f.1 i v m e)

pub look_grows : (g h : List WordsEntry) (t : Seat) → Grows g h → t.rv ≤ length g → LookIsFresh g t → LookIsFresh h t
look_grows g h t r l f c word value p = fresh_grows g h t.rv c word r l (f c word value p)

-- ---- the ranges

-- what some ranges permit, more of them permit too
pub permits_grow : {S N : Type 0} {a b : Pairs} {n : N} (terms : Terms S N) (setting : S) (rs qs : List Range) → Within rs qs
    → Permits terms setting rs a b n → Permits terms setting qs a b n
permits_grow terms setting rs qs l p = record {
  some = p.some;
  among = λ r h. l r (p.among r h);
  lawful = p.lawful;
  named = λ c v h g. names_grow rs qs v l (p.named c v h g);
}

module _ {N : Type 0} where
  pub seen_refl : (g : Seen N) → SeenGrows g g
  seen_refl g = (Grows-refl g.history, λ i n e. e, λ r e. e)

  pub seen_trans : (f g h : Seen N) → SeenGrows f g → SeenGrows g h → SeenGrows f h
  seen_trans f g h p q = (Grows-trans f.history g.history h.history p.0 q.0, λ i n e. q.1 i n (p.1 i n e), λ r e. q.2 r (p.2 r e))

  pub done_grows : (g h : Seen N) (i : ℕ) (w : Work N) → SeenGrows g h → IsDone g i w → IsDone h i w
  done_grows g h i w r d =
      let b : (f : WordsEntry) × (slice_get h.history i ≡ Some f) × EntryGrows d.entry f = r.0.1 i d.entry d.here in
      record {
        entry = b.0;
        here = b.1;
        done = b.2.2 (λ e. landed_not_open (sym d.done ∙ e)) ∙ d.done;
        reads = b.2.0 ∙ d.reads;
        writes = b.2.1 ∙ d.writes;
        note = r.1 i w.note d.note;
      }

  module _ {S : Type 0} (terms : Terms S N) (setting : S) (base : List ℕ) where
    pub agree_grows : (g h : Seen N) (cs : List (Call N)) → SeenGrows g h → Agree terms setting base g cs → Agree terms setting base h cs
    agree_grows g h [] r a = tt
    agree_grows g h (Committed n w ∷ cs) r a =
        let c : (i : ℕ) × (n ≡ suc i) × IsDone g i w = a.0 in
        ((c.0, c.1, done_grows g h c.0 w r c.2), agree_grows g h cs r a.1)
    agree_grows g h (Answered p w ∷ cs) r a =
        let c : CallAgrees terms setting base g (Answered p w) = a.0 in
        let l : length g.history ≤ length h.history = r.0.0 in
        let m : p ≤ length g.history = c.0 in
        let p2 : Permits terms setting h.ranges w.reads [] w.note = permits_grow terms setting g.ranges h.ranges r.2 c.2 in
        ((omega (arith, l, m), c.1, p2, One-kept base g.history h.history p w.reads r.0 m c.3), agree_grows g h cs r a.1)

    pub agree_snoc : (g : Seen N) (cs : List (Call N)) (c : Call N) → Agree terms setting base g cs → CallAgrees terms setting base g c
        → Agree terms setting base g (cs ++ c ∷ [])
    agree_snoc g [] c a b = (b, tt)
    agree_snoc g (d ∷ cs) c a b = (a.0, agree_snoc g cs c a.1 b)

  -- entries keep their reads, writes and notes
  pub entries_grow : {S : Type 0} (terms : Terms S N) (setting : S) (g h : List WordsEntry) (ns : List N) (rs : List Range) → Grows g h
      → length h ≡ length g → EntriesAre terms setting (record { history = g; notes = ns; ranges = rs })
      → EntriesAre terms setting (record { history = h; notes = ns; ranges = rs })
  entries_grow terms setting g h ns rs r l a i e n f k =
      let m : i < length h = get_within h i e f in
      let b : (x : WordsEntry) × (slice_get g i ≡ Some x) = get_exists g i (omega (arith, m, l)) in
      let c : (x : WordsEntry) × (slice_get h i ≡ Some x) × EntryGrows b.0 x = r.1 i b.0 b.1 in
      let p : Some c.0 ≡ Some e = sym c.1 ∙ f in
      let q : c.0 ≡ e = cc in
      let was : Permits terms setting rs (b.0).reads (b.0).writes n × ((b.0).writes ≢ []) = a i b.0 n b.1 k in
      let same_reads : e.reads ≡ (b.0).reads = ap (λ (x : WordsEntry). x.reads) (sym q) ∙ c.2.0 in
      let same_writes : e.writes ≡ (b.0).writes = ap (λ (x : WordsEntry). x.writes) (sym q) ∙ c.2.1 in
      let same : ((b.0).reads, (b.0).writes) ≡ (e.reads, e.writes) = λ j. (sym same_reads j, sym same_writes j) in
      (subst (λ (z : Pairs × Pairs). Permits terms setting rs z.0 z.1 n) same was.0, λ x. was.1 (sym same_writes ∙ x))
