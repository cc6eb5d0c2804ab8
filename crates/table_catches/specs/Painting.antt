-- Painting with number k: the positions of a range that have no handler get it. The table stands in u at t, len words; the links in w at m, len + 1 words.
use Rattle.std.specs.Prelude.{◌≡◌, List, ℕ, ◌+◌, ◌*◌, ◌≤◌, ◌<◌, length}
use Rattle.region.specs.Region.{Off, Frame, word_at}
use Rattle.table.specs.Records.{no_handler}
use Rattle.table_catches.specs.Catch.{catch_at}
use Rattle.table_catches.specs.Links.{Links, Found}

-- S is T, painted with k from s up to e, and not from stop on
pub record Painted (T S : ℕ → ℕ) (k s e stop len : ℕ) : Type 0 where
  pub hit : (q : ℕ) → q < len → s ≤ q → q < e → q < stop → T q ≡ no_handler → S q ≡ k
  pub miss : (q : ℕ) → q < len → (s ≤ q → q < e → q < stop → T q ≡ no_handler → ⊥) → S q ≡ T q

-- a free position has no handler, and any other has one
pub record Table (T N : ℕ → ℕ) (len : ℕ) : Type 0 where
  pub links : Links N len
  pub free : (q : ℕ) → q < len → N q ≡ q → T q ≡ no_handler
  pub busy : (q : ℕ) → q < len → q < N q → T q ≡ no_handler → ⊥

pub record FindIn (w : List ℕ) (m len p : ℕ) : Type 0 where
  pub links : Links (word_at w m) len
  pub m_in : m + (len + 1) ≤ length w
  pub small : len < 4294967296
  pub p_len : p ≤ len

pub record FindOut (w v : List ℕ) (m len p r : ℕ) : Type 0 where
  pub frame : Frame (Off m (m + (len + 1))) w v
  pub found : Found (word_at w m) (word_at v m) len p r

-- there is room for both
pub record Room (u w : List ℕ) (t m len : ℕ) : Type 0 where
  pub t_in : t + len ≤ length u
  pub m_in : m + (len + 1) ≤ length w
  pub small : len < 4294967296

pub record PaintIn (u w : List ℕ) (t m len k : ℕ) : Type 0 where
  pub room : Room u w t m len
  pub table : Table (word_at u t) (word_at w m) len
  pub k_none : k < no_handler

-- u and w before, x and y after
pub record PaintOut (u x w y : List ℕ) (t m len k s e stop : ℕ) : Type 0 where
  pub tables : Frame (Off t (t + len)) u x
  pub links : Frame (Off m (m + (len + 1))) w y
  pub table : Table (word_at x t) (word_at y m) len
  pub painted : Painted (word_at u t) (word_at x t) k s e stop len

-- h handlers, whose places are numbers of code
pub record AllIn (u w : List ℕ) (at h t m len : ℕ) : Type 0 where
  pub room : Room u w t m len
  pub places : at + 4 * h < 18446744073709551616
  pub h_none : h ≤ no_handler

pub record AllOut (b u x w y : List ℕ) (at h t m len : ℕ) : Type 0 where
  pub tables : Frame (Off t (t + len)) u x
  pub links : Frame (Off m (m + (len + 1))) w y
  pub value : (q : ℕ) → q < len → word_at x t q ≡ catch_at b at h q
