-- The scan in memory, and the whole: what its functions ask and give, what holds at the head of the loop, and each step of it.
use Rattle.std.specs.Prelude.{◌≡◌, refl, Bool, true, false, cond, List, ℕ, ◌+◌, ◌-◌, ◌≤◌, ◌<◌, length, get_or, set}
use Rattle.std.proofs.Common.{sym, ◌∙◌, arith, get_or-set_same, get_or-set_other}
use Rattle.std.proofs.Math.Decide.{dec_lt, ℕ_discrete}
use Rattle.sorting.specs.Items.{item}
use Rattle.sorting.specs.Merge.{Place}
use Rattle.sorting.specs.Contract.{Edges, Ready, Ordered}
use Rattle.sorting.proofs.Edges.{ready_kept}
use Rattle.open_canon.specs.Numbers.{items, canonical, own_by}
use Rattle.region.specs.Region.{Off, Frame, part, word_at}
use Rattle.region.specs.RegionLaws.{frame_refl, frame_then, frame_set, part_is}
use Rattle.open_canon.specs.Least.{First, numbers_length, numbers_at}

pub record HeadIn (ws w : List ℕ) (n s a p head : ℕ) : Type 0 where
  pub edges : Edges ws w n s
  pub a_in : a + n ≤ length w
  pub ordered : Ordered ws (part s (n + 1) w) n (word_at w a)
  pub p_n : p < n
  pub head_is : 0 < p → First ws (part s (n + 1) w) n (word_at w a (p - 1)) head

pub record ScanIn (ws w : List ℕ) (n s a c : ℕ) : Type 0 where
  pub ready : Ready ws w n s a c
  pub ordered : Ordered ws (part s (n + 1) w) n (word_at w a)
  pub small : n ≤ 4294967296

-- the canonical numbers lie at c, and all but c is as it was
pub record ScanOut (ws w v : List ℕ) (n s c : ℕ) (marked : Bool) : Type 0 where
  pub frame : Frame (Off c (c + n)) w v
  pub numbers : part c n v ≡ canonical (own_by marked) (items ws (part s (n + 1) w) n)

pub record ScanAt (ws w v : List ℕ) (n s a c : ℕ) (marked : Bool) (p head : ℕ) : Type 0 where
  pub frame : Frame (Off c (c + n)) w v
  pub p_n : p ≤ n
  pub head_is : 0 < p → First ws (part s (n + 1) w) n (word_at w a (p - 1)) head
  pub done : (q : ℕ) → q < p → word_at v c (word_at w a q) ≡ get_or (canonical (own_by marked) (items ws (part s (n + 1) w) n)) (word_at w a q) 0

pub scan_start : (ws w : List ℕ) (n s a c : ℕ) (marked : Bool) → ScanAt ws w w n s a c marked 0 0
scan_start ws w n s a c marked = record {
  frame = frame_refl (Off c (c + n)) w;
  p_n = omega arith;
  head_is = λ h. absurd (omega arith);
  done = λ q h. absurd (omega arith);
}

pub cond_below : (t : Bool) (a b n : ℕ) → a < n → b < n → cond t a b < n
cond_below true a b n h k = h
cond_below false a b n h k = k

ordered_kept : (ws S : List ℕ) (n : ℕ) (F G : ℕ → ℕ) → ((p : ℕ) → p < n → G p ≡ F p) → Ordered ws S n F → Ordered ws S n G
ordered_kept ws S n F G k o = record {
  sorted = λ p q x y z. rw (k p (omega arith), k q z) (o.sorted p q x y z);
  all = λ i h. let w = o.all i h in record { at = w.at; from = w.from; to = w.to; is = k w.at w.to ∙ w.is };
  below = λ p h. rw (k p h) (o.below p h);
}

module _ (ws w v : List ℕ) (n s a c : ℕ) (marked : Bool) (p head : ℕ) (i : ScanIn ws w n s a c) (t : ScanAt ws w v n s a c marked p head) where
  kept : (part s (n + 1) v ≡ part s (n + 1) w) × Ready ws v n s a c
  kept = ready_kept (Off c (c + n)) ws w v n s a c i.ready t.frame i.ready.s_b

  now_word_at : (q : ℕ) → q < n → word_at v a q ≡ word_at w a q
  now_word_at q h = t.frame.same (a + q) (i.ready.a_b (a + q) (omega arith) (omega arith))

  pub scan_edges : Edges ws v n s
  scan_edges = kept.1.edges

  -- the number at place p, as it is read
  pub scan_below : p < n → word_at v a p < n
  scan_below h = rw (now_word_at p h) (i.ordered.below p h)

  pub scan_head : p < n → HeadIn ws v n s a p head
  scan_head h = record {
    edges = kept.1.edges;
    a_in = kept.1.a_in;
    ordered = rw kept.0 (ordered_kept ws (part s (n + 1) w) n (word_at w a) (word_at v a) now_word_at i.ordered);
    p_n = h;
    head_is = λ l. rw (kept.0, now_word_at (p - 1) (omega arith)) (t.head_is l);
  }

  numbers : List ℕ
  numbers = canonical (own_by marked) (items ws (part s (n + 1) w) n)

  pub scan_step : (u : List ℕ) (x h r : ℕ) (own : Bool) → p < n → First ws (part s (n + 1) v) n (word_at v a p) h → x ≡ word_at v a p →
      own ≡ own_by marked (item ws (part s (n + 1) v) x) → r ≡ cond own x h → u ≡ set v (c + x) r → ScanAt ws w u n s a c marked (p + 1) h
  scan_step u x h r own l f ex eo er eu = record {
    frame = rw eu (frame_then (Off c (c + n)) (Off c (c + n)) (Off c (c + n)) w v (set v (c + x) r) (λ k o. o) (λ k o. o) t.frame
        (frame_set (Off c (c + n)) v (c + x) r (λ o. o (omega arith) (omega (arith, x_n)))));
    p_n = omega arith;
    head_is = λ m. let e : p + 1 - 1 ≡ p = omega arith in rw e first;
    done = λ q m. rw eu (go q m (ℕ_discrete (word_at w a q) x));
  }
    where
      is_x : x ≡ word_at w a p
      is_x = ex ∙ now_word_at p l

      x_n : x < n
      x_n = rw is_x (i.ordered.below p l)

      first : First ws (part s (n + 1) w) n (word_at w a p) h
      first = rw (← kept.0, ← now_word_at p l) f

      right : r ≡ get_or (canonical (own_by marked) (items ws (part s (n + 1) w) n)) x 0
      right = er ∙ (rw (eo, kept.0) refl) ∙ sym (numbers_at ws (part s (n + 1) w) n (own_by marked) x h x_n (rw is_x first))

      go : (q : ℕ) → q < p + 1 → Dec (word_at w a q ≡ x) → word_at (set v (c + x) r) c (word_at w a q) ≡ get_or (canonical (own_by marked) (items ws (part s (n + 1) w) n)) (word_at w a q) 0
      go q m (yes e) = rw e (get_or-set_same v (c + x) r 0 (omega (arith, x_n, t.frame.len, i.ready.b_in)) ∙ right)
      go q m (no d) = get_or-set_other v (c + x) (c + word_at w a q) r 0 (λ e. d (omega arith)) ∙ t.done q (earlier (dec_lt q p))
        where
          earlier : Dec (q < p) → q < p
          earlier (yes e) = e
          earlier (no e) = let z : q ≡ p = omega arith in absurd (d (rw z (sym is_x)))

  pub scan_end : n ≤ p → ScanOut ws w v n s c marked
  scan_end h = record {
    frame = t.frame;
    numbers = part_is c n v (canonical (own_by marked) (items ws (part s (n + 1) w) n)) kept.1.b_in (numbers_length ws (part s (n + 1) w) n (own_by marked)) λ k l. go k (i.ordered.all k l);
  }
    where
      go : (k : ℕ) → Place (word_at w a) 0 n k → word_at v c k ≡ get_or (canonical (own_by marked) (items ws (part s (n + 1) w) n)) k 0
      go k q = rw (← q.is) (t.done q.at (omega (arith, q.to)))
