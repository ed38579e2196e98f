use Rattle.jam_app.proofs.Causes.{refuses_none}
use Rattle.jam_app.proofs.Finishing.{alarmed, completes, count_kept, no_read_fault, no_usage, refuses_rightly, write_fault, writes_out}
use Rattle.jam_app.proofs.top.answered.Goals as goal

pub returns-in-Ok-clause-usage : goal.returns-in-Ok-clause-usage
returns-in-Ok-clause-usage g c = no_usage (g.O.Sink.taken c.args.out.now) (g.O.Sink.taken c.written.new.out) (g.O.Sink.faults c.args.out.now) (g.O.Sink.faults c.written.new.out) c.in-Ok.output c.written.result.status c.written.ensures.writes

pub returns-in-Ok-clause-read_fault : goal.returns-in-Ok-clause-read_fault
returns-in-Ok-clause-read_fault g c is = absurd (no_read_fault (g.O.Sink.taken c.args.out.now) (g.O.Sink.taken c.written.new.out) (g.O.Sink.faults c.args.out.now) (g.O.Sink.faults c.written.new.out) c.in-Ok.output c.written.result.status c.written.ensures.writes is)

pub returns-in-Ok-clause-write_fault : goal.returns-in-Ok-clause-write_fault
returns-in-Ok-clause-write_fault g c = write_fault (g.O.Sink.taken c.args.out.now) (g.O.Sink.taken c.written.new.out) (g.O.Sink.faults c.args.out.now) (g.O.Sink.faults c.written.new.out) c.in-Ok.output c.written.result.status c.written.ensures.writes

pub returns-in-Ok-clause-alarms : goal.returns-in-Ok-clause-alarms
returns-in-Ok-clause-alarms g c is = c.in-Ok.ensures.alarmed (alarmed (g.O.Sink.taken c.args.out.now) (g.O.Sink.taken c.written.new.out) (g.O.Sink.faults c.args.out.now) (g.O.Sink.faults c.written.new.out) c.in-Ok.output c.written.result.status c.written.ensures.writes is)

pub returns-in-Ok-clause-no_write_fault : goal.returns-in-Ok-clause-no_write_fault
returns-in-Ok-clause-no_write_fault g c = count_kept (g.O.Sink.taken c.args.out.now) (g.O.Sink.taken c.written.new.out) (g.O.Sink.faults c.args.out.now) (g.O.Sink.faults c.written.new.out) c.in-Ok.output c.written.result.status c.written.ensures.writes

pub returns-in-Ok-clause-refuses_rightly : goal.returns-in-Ok-clause-refuses_rightly
returns-in-Ok-clause-refuses_rightly g c = refuses_rightly (g.O.Sink.taken c.args.out.now) (g.O.Sink.taken c.written.new.out) (g.O.Sink.faults c.args.out.now) (g.O.Sink.faults c.written.new.out) c.in-Ok.output c.args.request.now (g.F.Folder.files c.args.folder.now) c.written.result.status c.written.ensures.writes

pub returns-in-Ok-clause-completes : goal.returns-in-Ok-clause-completes
returns-in-Ok-clause-completes g c = completes (g.O.Sink.taken c.args.out.now) (g.O.Sink.taken c.written.new.out) (g.O.Sink.faults c.args.out.now) (g.O.Sink.faults c.written.new.out) c.in-Ok.output c.args.request.now (g.F.Folder.files c.args.folder.now) c.written.result.status c.written.ensures.writes

pub returns-in-Ok-clause-out : goal.returns-in-Ok-clause-out
returns-in-Ok-clause-out g c = writes_out (g.O.Sink.taken c.args.out.now) (g.O.Sink.taken c.written.new.out) (g.O.Sink.faults c.args.out.now) (g.O.Sink.faults c.written.new.out) c.in-Ok.output c.args.request.now (g.F.Folder.files c.args.folder.now) c.written.result.status c.written.ensures.writes c.in-Ok.ensures.gives

pub returns-in-Ok-clause-refuses_always : goal.returns-in-Ok-clause-refuses_always
returns-in-Ok-clause-refuses_always g c = refuses_none _ c.args.request.now c.in-Ok.output (g.F.Folder.files c.args.folder.now) c.in-Ok.ensures.gives
