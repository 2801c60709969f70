-- Document 01, "One grant, one word", and document 02, A2: where each access leads, with the word that was seen, at grant number `now`.
-- Comparing, choosing and finishing cost nothing, so they are part of the grant before.
--
--   quiet, failure       nothing to record beyond one more grant used; nothing but a swap that failed
--   go_on k t            the head of task k on to stage t
--   retry k t            the same after a swap that failed
--   together k, apart k now   the answer, or the next stage, once both finds have ended at one root, or at two
--   compared, ended      both finds have ended; one of them has
--   followed             what the request makes of its find's step
--   reread               a same-set's last read
--   rank_both, after_link, linked, link   a union: both ranks are read; the head after the link; the link is written; its swap
--   tried, raise, raise_found   a rank swap; the one after the link; the one that ends the union
--   advance_at k w now t   the head after its access at stage t and what the grant did, one clause a stage
--   advance_of h w now   the same at the head's own stage
use Rattle.std.specs.Prelude.{Bool, true, false, not, cond, ℕ, eqb}
use Rattle.job.specs.declared.Kind.{Kind}
use Rattle.job.specs.declared.Kind.TheVariants.{Union, SameSet}
use Rattle.job.specs.declared.Answer.{Answer}
use Rattle.job.specs.declared.Answer.TheVariants.{Unfinished, Joined, Together, Yes, No}
use Rattle.word.specs.declared.Node.{Node}
use Rattle.word.specs.Word.{same, before}
use Rattle.process.specs.declared.Step.TheVariants.{ReadNode}
use Rattle.process.specs.declared.Errand.{Errand}
use Rattle.process.specs.declared.Errand.TheVariants.{UnionX, UnionY, SameX, SameY, Tidy}
use Rattle.process.specs.declared.Stage.{Stage}
use Rattle.process.specs.declared.Stage.TheVariants.{Resting, Find, RereadX, ReadRankX, ReadRankY, Link, Raise}
use Rattle.process.specs.declared.Stage.TheVariants.{ReadRankLinked, RaiseFound}
use Rattle.process.specs.declared.Task.{Task}
use Rattle.process.specs.declared.Head.{Head}
use Rattle.process.specs.declared.Event.{Event}
use Rattle.process.specs.declared.Advanced.{Advanced}
use Rattle.process.specs.Process.{node_at, moved_to, restart, tidy_up}
use Rattle.process.specs.Find.{Walked, walked}
use Rattle.process.specs.Find.Walked.{On, Failed, Up, Ended}

-- Most grants end no find, write no link and give no answer.
abbrev pub quiet : Event
quiet = record { failed = false; found = false; linked = false; answer = Unfinished; point = 0 }

-- Of these some have swapped in vain.
abbrev pub failure : Event
failure = record { failed = true; found = false; linked = false; answer = Unfinished; point = 0 }

-- On to the next stage,
abbrev pub go_on : Task → Stage → Advanced
go_on k t = record { head = record { stage = t; task = k }; event = quiet }

-- also after a swap that did not write.
abbrev pub retry : Task → Stage → Advanced
retry k t = record { head = record { stage = t; task = k }; event = failure }

-- ---- a request's finds

-- Equal: already together, or yes.
abbrev pub together : Kind → Answer
together Union = Together
together SameSet = Yes

-- Else a union reads x's word for its rank, and a same-set reads x's word again; its point may be this grant.
abbrev pub apart : Kind → ℕ → Stage
apart Union now = ReadRankX
apart SameSet now = RereadX now

-- Both finds have ended: compare.
abbrev pub compared : Task → Kind → ℕ → Advanced
compared k kind now =
    cond (eqb k.x k.y)
    (record {
      head = record { stage = Resting; task = k };
      event = record { failed = false; found = true; linked = false; answer = together kind; point = now };
    })
    (record {
      head = record { stage = apart kind now; task = k };
      event = record { failed = false; found = true; linked = false; answer = Unfinished; point = 0 };
    })

-- A find ended: find from x, then from y, keeping each root as the new x and y. (02, A2) The find after the link ends at some
-- y, and the linked x's word is read for its rank.
abbrev pub ended : Task → Errand → ℕ → Advanced
ended k UnionX now = go_on k (Find UnionY ReadNode)
ended k UnionY now = compared k Union now
ended k SameX now = go_on k (Find SameY ReadNode)
ended k SameY now = compared k SameSet now
ended k Tidy now = go_on k ReadRankLinked

-- The find goes on, fails to swap and goes on, moves up and starts over, or ends.
abbrev pub followed : Task → Errand → ℕ → Walked → Advanced
followed k e now (On s) = go_on k (Find e s)
followed k e now (Failed s) = retry k (Find e s)
followed k e now (Up v) = go_on (moved_to k e v) (Find e ReadNode)
followed k e now Ended = ended k e now

-- Still a root, no, at the point where the find from y ended; otherwise try again.
abbrev pub reread : Task → ℕ → Node → Advanced
reread k p w =
    cond (eqb w.parent k.x)
    (record {
      head = record { stage = Resting; task = k };
      event = record { failed = false; found = false; linked = false; answer = No; point = p };
    })
    (go_on k (restart SameSet))

-- ---- a union after its finds

-- If y comes before x by these ranks, exchange them.
abbrev pub rank_both : Task → ℕ → ℕ → Advanced
rank_both k rx ry =
    cond (before ry k.y rx k.x)
    (go_on (record { x = k.y; y = k.x; request = k.request; waits = k.waits }) (Link ry (eqb rx ry)))
    (go_on k (Link rx (eqb rx ry)))

-- The rank swap follows where the ranks read were equal; (02, A2) else the find from the x that was linked.
abbrev pub after_link : Task → ℕ → Bool → Head
after_link k r e = cond e (record { stage = Raise r; task = k }) (tidy_up k)

-- The link is written: the union has linked, and goes on.
abbrev pub linked : Task → ℕ → Bool → ℕ → Advanced
linked k r e now =
    record {
      head = after_link k r e;
      event = record { failed = false; found = false; linked = true; answer = Unfinished; point = now };
    }

-- If the link's swap fails, try again with x and y as they now are.
abbrev pub link : Task → ℕ → Bool → Node → ℕ → Advanced
link k r e w now = cond (same w (record { rank = r; parent = k.x })) (linked k r e now) (retry k (restart Union))

-- A rank swap is tried once, whether it writes or not.
abbrev pub tried : Head → Answer → Bool → Advanced
tried h a wrote =
    record { head = h; event = record { failed = not wrote; found = false; linked = false; answer = a; point = 0 } }

-- (02, A2) After the first comes the find from the x that was linked.
abbrev pub raise : Task → ℕ → Node → Advanced
raise k r w = tried (tidy_up k) Unfinished (same w (record { rank = r; parent = k.y }))

-- (02, A2) The second ends the union. The answer is joined.
abbrev pub raise_found : Task → ℕ → Node → Advanced
raise_found k r w = tried (record { stage = Resting; task = k }) Joined (same w (record { rank = r; parent = k.y }))

-- ---- every stage

-- Where the access of each stage leads.
abbrev pub advance_at : Task → Node → ℕ → Stage → Advanced
advance_at k w now Resting = go_on k Resting
advance_at k w now (Find e s) = followed k e now (walked (node_at k e) w s)
advance_at k w now (RereadX p) = reread k p w
advance_at k w now ReadRankX = go_on k (ReadRankY w.rank)
advance_at k w now (ReadRankY r) = rank_both k r w.rank
advance_at k w now (Link r e) = link k r e w now
advance_at k w now (Raise r) = raise k r w
advance_at k w now ReadRankLinked = go_on k (RaiseFound w.rank)
advance_at k w now (RaiseFound r) = raise_found k r w

-- Where the access of a head leads is told by its stage.
unfoldable pub advance_of : Head → Node → ℕ → Advanced
advance_of h w now = advance_at h.task w now h.stage
