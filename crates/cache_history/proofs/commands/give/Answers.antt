use Rattle.std.proofs.Common.{◌≡◌, ap, inl, inr}
use Rattle.std.specs.FinMap.{get}
use Rattle.ft_media.specs.State.{State}
use Rattle.cache_model.specs.Cache.{Written, written_dirty, written_clean, evicted, made_clean}
use Rattle.ssc.specs.CacheState.{geometry_of}
use Rattle.cache_history.specs.History.{is_write}
use Rattle.cache_history.specs.declared.kind.Kind.TheVariants as kinds
use Rattle.cache_history.proofs.CommandLemmas.{write_dirty_answer, write_later_answer, write_clean_answer, evict_answer, clean_answer, commit_answer, checkpoint_answer, up_after, up_later, up_written, left_of, left_of_write, full_of}
use Rattle.cache_history.proofs.RefusedLemmas.{still_of, unchanged_of}
use Rattle.cache_history.proofs.commands.give.Goals as goal

pub returns-in-WriteDirty-clause-answered : goal.returns-in-WriteDirty-clause-answered
returns-in-WriteDirty-clause-answered g c = write_dirty_answer c.args.cache.now c.write_dirty.new.self (g.M.Media.state c.args.media.now).contents
    (g.M.Media.state c.write_dirty.new.media).contents c.args.kind c.args.lba c.args.block.now c.write_dirty.result c.in-WriteDirty.is c.write_dirty.ensures.runs.geometry c.write_dirty.ensures.done
    c.write_dirty.ensures.nothing_waits

pub returns-in-WriteDirty-clause-images : goal.returns-in-WriteDirty-clause-images
returns-in-WriteDirty-clause-images g c = left_of_write c.args.cache.now (g.M.Media.state c.args.media.now).contents (g.M.Media.state c.write_dirty.new.media).contents kinds.WriteDirty c.args.lba c.args.block.now (λ s v van. van) c.write_dirty.ensures.images c.args.kind c.in-WriteDirty.is

pub returns-in-WriteDirty-clause-is_up : goal.returns-in-WriteDirty-clause-is_up
returns-in-WriteDirty-clause-is_up g c = up_written c.args.cache.now c.write_dirty.new.self (g.M.Media.state c.args.media.now).contents
    (g.M.Media.state c.write_dirty.new.media).contents c.args.kind c.args.lba c.args.block.now c.write_dirty.result (written_dirty c.args.lba c.args.block.now)
    c.write_dirty.ensures.done c.write_dirty.ensures.runs.stopped c.requires.up

pub returns-in-WriteLater-clause-answered : goal.returns-in-WriteLater-clause-answered
returns-in-WriteLater-clause-answered g c = write_later_answer c.args.cache.now c.write_later.new.self (g.M.Media.state c.args.media.now).contents
    (g.M.Media.state c.write_later.new.media).contents c.args.kind c.args.lba c.args.block.now c.write_later.result c.in-WriteLater.is c.write_later.ensures.runs.geometry c.write_later.ensures.done

pub returns-in-WriteLater-clause-images : goal.returns-in-WriteLater-clause-images
returns-in-WriteLater-clause-images g c = left_of_write c.args.cache.now (g.M.Media.state c.args.media.now).contents (g.M.Media.state c.write_later.new.media).contents kinds.WriteLater c.args.lba c.args.block.now (λ s v van. van) c.write_later.ensures.images c.args.kind c.in-WriteLater.is

pub returns-in-WriteLater-clause-is_up : goal.returns-in-WriteLater-clause-is_up
returns-in-WriteLater-clause-is_up g c = up_later c.args.cache.now c.write_later.new.self (g.M.Media.state c.args.media.now).contents
    (g.M.Media.state c.write_later.new.media).contents c.args.kind c.args.lba c.args.block.now c.write_later.result (written_dirty c.args.lba c.args.block.now) (λ v. Written c.args.lba (get v c.args.lba))
    c.write_later.ensures.done c.write_later.ensures.runs.stopped c.requires.up

pub returns-in-WriteClean-clause-answered : goal.returns-in-WriteClean-clause-answered
returns-in-WriteClean-clause-answered g c = write_clean_answer c.args.cache.now c.write_clean.new.self (g.M.Media.state c.args.media.now).contents
    (g.M.Media.state c.write_clean.new.media).contents c.args.kind c.args.lba c.args.block.now c.write_clean.result c.in-WriteClean.is c.write_clean.ensures.runs.geometry c.write_clean.ensures.done
    c.write_clean.ensures.over_held c.write_clean.ensures.at_absent

pub returns-in-WriteClean-clause-images : goal.returns-in-WriteClean-clause-images
returns-in-WriteClean-clause-images g c = left_of_write c.args.cache.now (g.M.Media.state c.args.media.now).contents (g.M.Media.state c.write_clean.new.media).contents kinds.WriteClean c.args.lba c.args.block.now (λ s v van. van) c.write_clean.ensures.images c.args.kind c.in-WriteClean.is

pub returns-in-WriteClean-clause-is_up : goal.returns-in-WriteClean-clause-is_up
returns-in-WriteClean-clause-is_up g c = up_written c.args.cache.now c.write_clean.new.self (g.M.Media.state c.args.media.now).contents
    (g.M.Media.state c.write_clean.new.media).contents c.args.kind c.args.lba c.args.block.now c.write_clean.result (written_clean c.args.lba c.args.block.now)
    c.write_clean.ensures.done c.write_clean.ensures.runs.stopped c.requires.up

pub returns-in-Evict-clause-answered : goal.returns-in-Evict-clause-answered
returns-in-Evict-clause-answered g c = evict_answer c.args.cache.now c.evict.new.self (g.M.Media.state c.args.media.now).contents
    (g.M.Media.state c.evict.new.media).contents c.args.kind c.args.lba c.args.block.now c.evict.result (g.M.Media.state c.evict.new.media ≡ g.M.Media.state c.args.media.now) (λ e. ap (λ (x : State). x.contents) e)
    c.in-Evict.is c.evict.ensures.done c.evict.ensures.held c.evict.ensures.absent

pub returns-in-Evict-clause-images : goal.returns-in-Evict-clause-images
returns-in-Evict-clause-images g c = left_of c.args.cache.now (g.M.Media.state c.args.media.now).contents (g.M.Media.state c.evict.new.media).contents kinds.Evict c.args.lba c.args.block.now c.evict.ensures.images c.args.kind c.in-Evict.is

pub returns-in-Evict-clause-is_up : goal.returns-in-Evict-clause-is_up
returns-in-Evict-clause-is_up g c = up_after c.args.cache.now c.evict.new.self (g.M.Media.state c.args.media.now).contents
    (g.M.Media.state c.evict.new.media).contents c.args.kind c.args.lba c.args.block.now c.evict.result (evicted c.args.lba) c.evict.ensures.done c.evict.ensures.runs.stopped c.requires.up

pub returns-in-Clean-clause-answered : goal.returns-in-Clean-clause-answered
returns-in-Clean-clause-answered g c = clean_answer c.args.cache.now c.clean.new.self (g.M.Media.state c.args.media.now).contents
    (g.M.Media.state c.clean.new.media).contents c.args.kind c.args.lba c.args.block.now c.clean.result (g.M.Media.state c.clean.new.media ≡ g.M.Media.state c.args.media.now) (λ e. ap (λ (x : State). x.contents) e)
    c.in-Clean.is c.clean.ensures.of_dirty c.clean.ensures.of_other

pub returns-in-Clean-clause-images : goal.returns-in-Clean-clause-images
returns-in-Clean-clause-images g c = left_of c.args.cache.now (g.M.Media.state c.args.media.now).contents (g.M.Media.state c.clean.new.media).contents kinds.Clean c.args.lba c.args.block.now c.clean.ensures.images c.args.kind c.in-Clean.is

pub returns-in-Clean-clause-is_up : goal.returns-in-Clean-clause-is_up
returns-in-Clean-clause-is_up g c = up_after c.args.cache.now c.clean.new.self (g.M.Media.state c.args.media.now).contents
    (g.M.Media.state c.clean.new.media).contents c.args.kind c.args.lba c.args.block.now c.clean.result (made_clean c.args.lba) c.clean.ensures.done c.clean.ensures.runs.stopped c.requires.up

pub returns-in-Commit-clause-answered : goal.returns-in-Commit-clause-answered
returns-in-Commit-clause-answered g c = commit_answer c.args.cache.now c.commit.new.self (g.M.Media.state c.args.media.now).contents
    (g.M.Media.state c.commit.new.media).contents c.args.kind c.args.lba c.args.block.now c.commit.result c.in-Commit.is c.commit.ensures.done c.commit.ensures.nothing_waits

pub returns-in-Commit-clause-images : goal.returns-in-Commit-clause-images
returns-in-Commit-clause-images g c = left_of c.args.cache.now (g.M.Media.state c.args.media.now).contents (g.M.Media.state c.commit.new.media).contents kinds.Commit c.args.lba c.args.block.now c.commit.ensures.images c.args.kind c.in-Commit.is

pub returns-in-Commit-clause-is_up : goal.returns-in-Commit-clause-is_up
returns-in-Commit-clause-is_up g c = up_after c.args.cache.now c.commit.new.self (g.M.Media.state c.args.media.now).contents (g.M.Media.state c.commit.new.media).contents
    c.args.kind c.args.lba c.args.block.now c.commit.result (λ s. s) c.commit.ensures.done c.commit.ensures.runs.stopped c.requires.up

pub returns-in-Checkpoint-clause-answered : goal.returns-in-Checkpoint-clause-answered
returns-in-Checkpoint-clause-answered g c = checkpoint_answer c.args.cache.now c.checkpoint.new.self (g.M.Media.state c.args.media.now).contents
    (g.M.Media.state c.checkpoint.new.media).contents c.args.kind c.args.lba c.args.block.now c.checkpoint.result c.in-Checkpoint.is c.checkpoint.ensures.done c.checkpoint.ensures.nothing_waits

pub returns-in-Checkpoint-clause-images : goal.returns-in-Checkpoint-clause-images
returns-in-Checkpoint-clause-images g c = left_of c.args.cache.now (g.M.Media.state c.args.media.now).contents (g.M.Media.state c.checkpoint.new.media).contents kinds.Checkpoint c.args.lba c.args.block.now c.checkpoint.ensures.images c.args.kind c.in-Checkpoint.is

pub returns-in-Checkpoint-clause-is_up : goal.returns-in-Checkpoint-clause-is_up
returns-in-Checkpoint-clause-is_up g c = up_after c.args.cache.now c.checkpoint.new.self (g.M.Media.state c.args.media.now).contents
    (g.M.Media.state c.checkpoint.new.media).contents c.args.kind c.args.lba c.args.block.now c.checkpoint.result (λ s. s) c.checkpoint.ensures.done c.checkpoint.ensures.runs.stopped c.requires.up

pub returns-in-WriteDirty-clause-no_event : goal.returns-in-WriteDirty-clause-no_event
returns-in-WriteDirty-clause-no_event g c =
    record {
      unchanged = unchanged_of c.args.cache.now c.write_dirty.new.self (g.M.Media.state c.args.media.now) (g.M.Media.state c.write_dirty.new.media) c.write_dirty.result c.write_dirty.ensures.refused.full_keeps (λ is. let none = c.write_dirty.ensures.refused.memory is in (none.1, none.2));
      still = still_of c.args.cache.now c.write_dirty.new.self (g.M.Media.state c.args.media.now) (g.M.Media.state c.write_dirty.new.media)
          c.write_dirty.result c.write_dirty.ensures.refused.full_keeps (λ is. let none = c.write_dirty.ensures.refused.memory is in (none.1, none.2)) c.write_dirty.ensures.refused.memory_holds;
      full_keeps = λ n k is. (c.write_dirty.ensures.refused.full_keeps n k is).0;
      full = λ n k e. (inl c.in-WriteDirty.is, λ s holds. full_of c.write_dirty.result (geometry_of c.args.cache.now) s c.args.lba n k (c.write_dirty.ensures.full s holds) e);
      memory = λ e. (ap is_write c.in-WriteDirty.is, (c.write_dirty.ensures.refused.memory e).0);
    }

pub returns-in-WriteLater-clause-no_event : goal.returns-in-WriteLater-clause-no_event
returns-in-WriteLater-clause-no_event g c =
    record {
      unchanged = unchanged_of c.args.cache.now c.write_later.new.self (g.M.Media.state c.args.media.now) (g.M.Media.state c.write_later.new.media) c.write_later.result c.write_later.ensures.refused.full_keeps (λ is. let none = c.write_later.ensures.refused.memory is in (none.1, none.2));
      still = still_of c.args.cache.now c.write_later.new.self (g.M.Media.state c.args.media.now) (g.M.Media.state c.write_later.new.media)
          c.write_later.result c.write_later.ensures.refused.full_keeps (λ is. let none = c.write_later.ensures.refused.memory is in (none.1, none.2)) c.write_later.ensures.refused.memory_holds;
      full_keeps = λ n k is. (c.write_later.ensures.refused.full_keeps n k is).0;
      full = λ n k e. (inr c.in-WriteLater.is, λ s holds. full_of c.write_later.result (geometry_of c.args.cache.now) s c.args.lba n k (c.write_later.ensures.full s holds) e);
      memory = λ e. (ap is_write c.in-WriteLater.is, (c.write_later.ensures.refused.memory e).0);
    }

pub returns-in-WriteClean-clause-no_event : goal.returns-in-WriteClean-clause-no_event
returns-in-WriteClean-clause-no_event g c =
    record {
      unchanged = unchanged_of c.args.cache.now c.write_clean.new.self (g.M.Media.state c.args.media.now) (g.M.Media.state c.write_clean.new.media) c.write_clean.result
          (λ n l is. absurd (c.write_clean.ensures.full n l is)) (λ is. let none = c.write_clean.ensures.refused.memory is in (none.1, none.2));
      still = still_of c.args.cache.now c.write_clean.new.self (g.M.Media.state c.args.media.now) (g.M.Media.state c.write_clean.new.media) c.write_clean.result
          (λ n l is. absurd (c.write_clean.ensures.full n l is)) (λ is. let none = c.write_clean.ensures.refused.memory is in (none.1, none.2)) c.write_clean.ensures.refused.memory_holds;
      full_keeps = λ n k is. absurd (c.write_clean.ensures.full n k is);
      full = λ n k e. absurd (c.write_clean.ensures.full n k e);
      memory = λ e. (ap is_write c.in-WriteClean.is, (c.write_clean.ensures.refused.memory e).0);
    }

pub returns-in-Evict-clause-no_event : goal.returns-in-Evict-clause-no_event
returns-in-Evict-clause-no_event g c =
    record {
      unchanged = unchanged_of c.args.cache.now c.evict.new.self (g.M.Media.state c.args.media.now) (g.M.Media.state c.evict.new.media) c.evict.result (λ n l is. absurd (c.evict.ensures.runs.full n l is)) (λ is. absurd (c.evict.ensures.runs.memory is));
      still = still_of c.args.cache.now c.evict.new.self (g.M.Media.state c.args.media.now) (g.M.Media.state c.evict.new.media) c.evict.result (λ n l is. absurd (c.evict.ensures.runs.full n l is)) (λ is. absurd (c.evict.ensures.runs.memory is)) (λ is. absurd (c.evict.ensures.runs.memory is));
      full_keeps = λ n k is. absurd (c.evict.ensures.runs.full n k is);
      full = λ n k e. absurd (c.evict.ensures.runs.full n k e);
      memory = λ e. absurd (c.evict.ensures.runs.memory e);
    }

pub returns-in-Clean-clause-no_event : goal.returns-in-Clean-clause-no_event
returns-in-Clean-clause-no_event g c =
    record {
      unchanged = unchanged_of c.args.cache.now c.clean.new.self (g.M.Media.state c.args.media.now) (g.M.Media.state c.clean.new.media) c.clean.result (λ n l is. absurd (c.clean.ensures.runs.full n l is)) (λ is. absurd (c.clean.ensures.runs.memory is));
      still = still_of c.args.cache.now c.clean.new.self (g.M.Media.state c.args.media.now) (g.M.Media.state c.clean.new.media) c.clean.result (λ n l is. absurd (c.clean.ensures.runs.full n l is)) (λ is. absurd (c.clean.ensures.runs.memory is)) (λ is. absurd (c.clean.ensures.runs.memory is));
      full_keeps = λ n k is. absurd (c.clean.ensures.runs.full n k is);
      full = λ n k e. absurd (c.clean.ensures.runs.full n k e);
      memory = λ e. absurd (c.clean.ensures.runs.memory e);
    }

pub returns-in-Commit-clause-no_event : goal.returns-in-Commit-clause-no_event
returns-in-Commit-clause-no_event g c =
    record {
      unchanged = unchanged_of c.args.cache.now c.commit.new.self (g.M.Media.state c.args.media.now) (g.M.Media.state c.commit.new.media) c.commit.result (λ n l is. absurd (c.commit.ensures.runs.full n l is)) (λ is. absurd (c.commit.ensures.runs.memory is));
      still = still_of c.args.cache.now c.commit.new.self (g.M.Media.state c.args.media.now) (g.M.Media.state c.commit.new.media) c.commit.result
          (λ n l is. absurd (c.commit.ensures.runs.full n l is)) (λ is. absurd (c.commit.ensures.runs.memory is)) (λ is. absurd (c.commit.ensures.runs.memory is));
      full_keeps = λ n k is. absurd (c.commit.ensures.runs.full n k is);
      full = λ n k e. absurd (c.commit.ensures.runs.full n k e);
      memory = λ e. absurd (c.commit.ensures.runs.memory e);
    }

pub returns-in-Checkpoint-clause-no_event : goal.returns-in-Checkpoint-clause-no_event
returns-in-Checkpoint-clause-no_event g c =
    record {
      unchanged = unchanged_of c.args.cache.now c.checkpoint.new.self (g.M.Media.state c.args.media.now) (g.M.Media.state c.checkpoint.new.media) c.checkpoint.result (λ n l is. absurd (c.checkpoint.ensures.runs.full n l is)) (λ is. absurd (c.checkpoint.ensures.runs.memory is));
      still = still_of c.args.cache.now c.checkpoint.new.self (g.M.Media.state c.args.media.now) (g.M.Media.state c.checkpoint.new.media) c.checkpoint.result
          (λ n l is. absurd (c.checkpoint.ensures.runs.full n l is)) (λ is. absurd (c.checkpoint.ensures.runs.memory is)) (λ is. absurd (c.checkpoint.ensures.runs.memory is));
      full_keeps = λ n k is. absurd (c.checkpoint.ensures.runs.full n k is);
      full = λ n k e. absurd (c.checkpoint.ensures.runs.full n k e);
      memory = λ e. absurd (c.checkpoint.ensures.runs.memory e);
    }
