use Rattle.query_nearest.proofs.ScanSteps.{no_wider, passed, is_wider}
use Rattle.query_nearest.proofs.better.Goals.{else-holds-via-then-holds+else-post-pre, else-holds-via-else-holds}
use Rattle.query_nearest.proofs.better.Goals as goal

pub returns-then-post-pre : goal.returns-then-post-pre
returns-then-post-pre c =
    no_wider _ _ _ _ c.requires.a_bound c.requires.scanned c.requires.spans c.word_at-pre.ensures.value c.word_at-post.ensures.value
    c.holds.ensures c.if-holds.true c.if-post-pre.true

pub returns : goal.returns
returns c = elim c.else-holds.branch [
  | else-holds-via-then-holds+else-post-pre w ↦
      is_wider _ _ _ _ c.requires.a_bound c.requires.scanned c.requires.spans c.word_at-pre.ensures.value c.word_at-post.ensures.value
      c.holds.ensures w.if-holds.true c.word_at-post.ensures.upper_bound w.if-post-pre.false
  | else-holds-via-else-holds w ↦
      passed _ _ _ _ c.requires.a_bound c.requires.scanned c.requires.spans c.word_at-pre.ensures.value c.word_at-post.ensures.value
      c.holds.ensures w.if-holds.false
]
