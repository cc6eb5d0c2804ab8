-- The table and its links in memory: each step of the loops.
use mathlib.Core.Path.{◌≡◌, ap, ◌∙◌, subst}
use mathlib.Core.List.{List}
use Prim.Native.Nat.{ℕ, ◌+◌, ◌*◌, ◌≤◌, ◌<◌, min}
use native.Mathlib.Omega.{arith}
use lib.ListN.{length, get_or, set}
use lib.Seq.{get_or-set_same, get_or-set_other}
use Rattle.blocks.specs.Blocks.{words}
use Rattle.region.specs.Region.{Off, Frame, word_at}
use Rattle.region.specs.RegionLaws.{frame_refl, frame_then, frame_set}
use Rattle.table.specs.Records.{no_handler}
use Rattle.table_catches.specs.Catch.{catch_at}
use Rattle.table_catches.specs.Painting.{Table, FindIn, FindOut, Room, PaintIn, PaintOut, AllIn, AllOut}
use Rattle.table_catches.proofs.LinkLaws.{Finding, finding_start, finding_more, finding_end}
use Rattle.table_catches.proofs.PaintLaws.{painted_none, painted_then, table_found, painted_past, painted_here, table_here, painted_handler}

-- a store in a region, seen from the region
store_same : (w : List ℕ) (a x y : ℕ) → a + x < length w → word_at (set w (a + x) y) a x ≡ y
store_same w a x y h = get_or-set_same w (a + x) y 0 h

store_other : (w : List ℕ) (a x z y : ℕ) → (z ≡ x → ⊥) → word_at (set w (a + x) y) a z ≡ word_at w a z
store_other w a x z y n = get_or-set_other w (a + x) (a + z) y 0 (λ e. n (omega arith))

-- one store more in a region of n words
stored : (u v : List ℕ) (a n i x : ℕ) → i < n → Frame (Off a (a + n)) u v → Frame (Off a (a + n)) u (set v (a + i) x)
stored u v a n i x h f =
    frame_then (Off a (a + n)) (Off a (a + n)) (Off a (a + n)) u v (set v (a + i) x) (λ k o. o) (λ k o. o) f
    (frame_set (Off a (a + n)) v (a + i) x (λ o. o (omega arith) (omega arith)))

both : (a n : ℕ) (u v w : List ℕ) → Frame (Off a (a + n)) u v → Frame (Off a (a + n)) v w → Frame (Off a (a + n)) u w
both a n u v w f g = frame_then (Off a (a + n)) (Off a (a + n)) (Off a (a + n)) u v w (λ k o. o) (λ k o. o) f g

-- ── find ──

pub record FindAt (w v : List ℕ) (m len p q : ℕ) : Type 0 where
  pub frame : Frame (Off m (m + (len + 1))) w v
  pub finding : Finding (word_at w m) (word_at v m) len p q

pub find_start : (w : List ℕ) (m len p : ℕ) → FindIn w m len p → FindAt w w m len p p
find_start w m len p i = record { frame = frame_refl (Off m (m + (len + 1))) w; finding = finding_start (word_at w m) len p i.links i.p_len }

module _ (w v : List ℕ) (m len p q : ℕ) (i : FindIn w m len p) (t : FindAt w v m len p q) where
  pub find_bounds : (q ≤ word_at v m q) × (word_at v m q ≤ len) × (word_at v m (word_at v m q) ≤ len) × (m + len < length v) × (q ≤ len) × (p ≤ q) × (word_at v m q ≤ word_at v m (word_at v m q))
  find_bounds =
      let k = t.finding.links.top q t.finding.to in
      omega (
        arith,
        t.finding.links.up q t.finding.to,
        k,
        t.finding.links.top (word_at v m q) k,
        t.finding.links.up (word_at v m q) k,
        t.frame.len,
        i.m_in,
        t.finding.to,
        t.finding.from,
      )

  -- the link x of q, and the link y of x, as they are read
  pub find_reads : (x y : ℕ) → x ≡ word_at v m q → y ≡ word_at v m x → (x ≤ len) × (y ≤ len) × (x ≤ y)
  find_reads x y ex ey = omega (arith, ap (word_at v m) ex, find_bounds)

  pub find_step : (u : List ℕ) (x y : ℕ) → q < x → x ≡ word_at v m q → y ≡ word_at v m x → u ≡ set v (m + q) y → FindAt w u m len p y
  find_step u x y h ex ey eu = record {
    frame = rw eu (stored w v m (len + 1) q y (omega (arith, find_bounds)) t.frame);
    finding = subst (λ (z : ℕ). Finding (word_at w m) (word_at u m) len p z) new
        (finding_more (word_at w m) (word_at v m) (word_at u m) len p q t.finding (omega arith) (new ∙ ey ∙ ap (word_at v m) ex) old);
  }
    where
      new : word_at u m q ≡ y
      new = rw eu (store_same v m q y (omega (arith, find_bounds)))

      old : (z : ℕ) → z ≤ len → (z ≡ q → ⊥) → word_at u m z ≡ word_at v m z
      old z l n = rw eu (store_other v m q z y n)

  pub find_end : word_at v m q ≤ q → FindOut w v m len p q
  find_end h = record { frame = t.frame; found = finding_end (word_at w m) (word_at v m) len p q t.finding h }

-- ── one position ──

module _ (u w v : List ℕ) (t m len k p r : ℕ) (i : PaintIn u w t m len k) (f : FindOut w v m len p r) where
  table_now : Table (word_at u t) (word_at v m) len
  table_now = table_found (word_at u t) (word_at w m) (word_at v m) len p r i.table f.found

  pub one_past : (stop : ℕ) → stop ≤ r → PaintOut u u w v t m len k p (r + 1) stop
  one_past stop h = record {
    tables = frame_refl (Off t (t + len)) u;
    links = f.frame;
    table = table_now;
    painted = painted_past (word_at u t) (word_at v m) (word_at w m) k len p r stop table_now f.found h;
  }

  pub one_here : (x y : List ℕ) (stop : ℕ) → r < stop → stop ≤ len → x ≡ set u (t + r) k → y ≡ set v (m + r) (r + 1) → PaintOut u x w y t m len k p (r + 1) stop
  one_here x y stop h l ex ey = record {
    tables = rw ex (stored u u t len r k (omega arith) (frame_refl (Off t (t + len)) u));
    links = rw ey (stored w v m (len + 1) r (r + 1) (omega arith) f.frame);
    table = table_here (word_at u t) (word_at x t) (word_at w m) (word_at v m) (word_at y m) k len p r stop table_now f.found h l i.k_none here else new old;
    painted = painted_here (word_at u t) (word_at x t) (word_at w m) (word_at v m) (word_at y m) k len p r stop table_now f.found h l i.k_none here else new old;
  }
    where
      here : word_at x t r ≡ k
      here = rw ex (store_same u t r k (omega (arith, i.room.t_in)))

      else : (z : ℕ) → z < len → (z ≡ r → ⊥) → word_at x t z ≡ word_at u t z
      else z a n = rw ex (store_other u t r z k n)

      new : word_at y m r ≡ r + 1
      new = rw ey (store_same v m r (r + 1) (omega (arith, f.frame.len, i.room.m_in)))

      old : (z : ℕ) → z ≤ len → (z ≡ r → ⊥) → word_at y m z ≡ word_at v m z
      old z a n = rw ey (store_other v m r z (r + 1) n)

-- ── one handler ──

room_kept : (u x w y : List ℕ) (t m len : ℕ) → Room u w t m len → length x ≡ length u → length y ≡ length w → Room x y t m len
room_kept u x w y t m len r e f = record { t_in = omega (arith, r.t_in); m_in = omega (arith, r.m_in); small = r.small }

pub record PaintAt (u x w y : List ℕ) (t m len k s p stop : ℕ) : Type 0 where
  pub out : PaintOut u x w y t m len k s p stop
  pub s_p : s ≤ p

pub paint_start : (u w : List ℕ) (t m len k s stop : ℕ) → PaintIn u w t m len k → PaintAt u u w w t m len k s s stop
paint_start u w t m len k s stop i = record {
  out = record {
    tables = frame_refl (Off t (t + len)) u;
    links = frame_refl (Off m (m + (len + 1))) w;
    table = i.table;
    painted = painted_none (word_at u t) k s stop len;
  };
  s_p = omega arith;
}

pub paint_now : (u x w y : List ℕ) (t m len k s p stop : ℕ) → PaintIn u w t m len k → PaintAt u x w y t m len k s p stop → PaintIn x y t m len k
paint_now u x w y t m len k s p stop i a = record {
  room = room_kept u x w y t m len i.room a.out.tables.len a.out.links.len;
  table = a.out.table;
  k_none = i.k_none;
}

pub paint_step : (u x x' w y y' : List ℕ) (t m len k s p r stop : ℕ) → PaintAt u x w y t m len k s p stop → PaintOut x x' y y' t m len k p r stop → p ≤ r
    → PaintAt u x' w y' t m len k s r stop
paint_step u x x' w y y' t m len k s p r stop a o h = record {
  out = record {
    tables = both t len u x x' a.out.tables o.tables;
    links = both m (len + 1) w y y' a.out.links o.links;
    table = o.table;
    painted = painted_then (word_at u t) (word_at x t) (word_at x' t) k s p r stop len a.s_p a.out.painted o.painted h;
  };
  s_p = omega (arith, a.s_p);
}

pub paint_end : (u x w y : List ℕ) (t m len k s p stop : ℕ) → PaintAt u x w y t m len k s p stop → stop ≤ p → PaintOut u x w y t m len k s stop stop
paint_end u x w y t m len k s p stop a h = record {
  tables = a.out.tables;
  links = a.out.links;
  table = a.out.table;
  painted = record {
    hit = λ q b c d e g. a.out.painted.hit q b c (omega arith) e g;
    miss = λ q b n. a.out.painted.miss q b (λ c d e g. n c e e g);
  };
}

-- ── all handlers ──

pub record AllAt (b u x w y : List ℕ) (at t m len k : ℕ) : Type 0 where
  pub tables : Frame (Off t (t + len)) u x
  pub links : Frame (Off m (m + (len + 1))) w y
  pub table : Table (word_at x t) (word_at y m) len
  pub value : (q : ℕ) → q < len → word_at x t q ≡ catch_at b at k q

pub all_start : (b u w : List ℕ) (at t m len : ℕ) → ((q : ℕ) → q < len → word_at u t q ≡ no_handler) → ((q : ℕ) → q < len + 1 → word_at w m q ≡ q) → AllAt b u u w w at t m len 0
all_start b u w at t m len f g = record {
  tables = frame_refl (Off t (t + len)) u;
  links = frame_refl (Off m (m + (len + 1))) w;
  table = record {
    links = record {
      up = λ q h. omega (arith, g q (omega arith));
      top = λ q h. omega (arith, g q (omega arith));
      over = λ p q h k l. absurd (omega (arith, g p (omega arith)));
    };
    free = λ q h e. f q h;
    busy = λ q h l. absurd (omega (arith, g q (omega arith)));
  };
  value = f;
}

module _ (b u x w y : List ℕ) (at h t m len k : ℕ) (i : AllIn u w at h t m len) (a : AllAt b u x w y at t m len k) where
  pub all_paint : k < h → PaintIn x y t m len k
  all_paint l = record { room = room_kept u x w y t m len i.room a.tables.len a.links.len; table = a.table; k_none = omega (arith, i.h_none) }

  pub all_step : (x' y' : List ℕ) (s e : ℕ) → k < h → s ≡ get_or (words b) (at + 4 * k) 0 → e ≡ min (get_or (words b) (at + 4 * k + 1) 0) len → PaintOut x x' y y' t m len k s e e
      → AllAt b u x' w y' at t m len (k + 1)
  all_step x' y' s e l es ee o = record {
    tables = both t len u x x' a.tables o.tables;
    links = both m (len + 1) w y y' a.links o.links;
    table = o.table;
    value = painted_handler b at k e len (word_at x t) (word_at x' t) (omega (arith, i.h_none)) ee (rw (← es) o.painted) a.value;
  }

  pub all_end : k ≤ h → h ≤ k → AllOut b u x w y at h t m len
  all_end c d = let z : k ≡ h = omega arith in record { tables = a.tables; links = a.links; value = λ q l. a.value q l ∙ ap (λ (j : ℕ). catch_at b at j q) z }
