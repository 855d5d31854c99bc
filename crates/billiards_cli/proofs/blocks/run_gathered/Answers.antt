use Rattle.std.proofs.Common.{◌≡◌, IfSome, sym, ap, ◌∙◌, subst, subst₂}
use Rattle.std.specs.Io.KnownBytes.{Appends}
use Rattle.mcb_ends.specs.Bytes.{Writes}
use Rattle.mcb_ends.specs.Gathered.{gathered_sink, gathered_held, gathered_written}
use Rattle.billiards_cli.specs.Requests.{request_of, command_of}
use Rattle.billiards_cli.specs.Services.{Serves}
use Rattle.billiards_cli.specs.Streams.{Streams}
use Rattle.billiards_cli.proofs.PassingOn.{PassesOn, passed, passed_on_asked, decided_asked}
use Rattle.billiards_cli.proofs.blocks.run_gathered.Goals as goal

pub returns-clause-serves : goal.returns-clause-serves
returns-clause-serves g c =
    let k = g.K.Sink in
    let held = c.run-status.new.out in
    let out = c.finish-out.result.0 in
    let asked = request_of c.args.arguments.now in
    let left = g.S.Source.left c.args.src.now in
    let faults = g.S.Source.faults c.args.src.now in
    let before : Streams = record { left = left; source_faults = faults; written = k.written c.args.out; sink_faults = k.faults c.args.out } in
    let mid : Streams = record {
      left = g.S.Source.left c.run-status.new.src;
      source_faults = g.S.Source.faults c.run-status.new.src;
      written = gathered_written k.written held;
      sink_faults = k.faults (gathered_sink held);
    } in
    let serves : IfSome asked (λ request. Serves (command_of request) before mid c.run-status.result) =
    subst₂ (λ w f. IfSome asked (λ request.
    Serves (command_of request) (record { left = left; source_faults = faults; written = w; sink_faults = f }) mid c.run-status.result))
    c.new-gathered.ensures.written (ap k.faults c.new-gathered.ensures.sink) c.run-status.ensures.serves in
    let on : PassesOn before mid (passed mid (k.written out) (k.faults out)) c.finish-out.result.1 = record {
      text = λ text written. subst (λ w. Writes w (k.written out) c.finish-out.result.1 text) (sym c.requires)
          (c.finish-out.ensures.text text (subst (λ w. Appends w (gathered_written k.written held) text) c.requires written));
      cause = c.finish-out.ensures.cause;
    } in
    subst (λ s. IfSome asked (λ request. Serves (command_of request) before (passed mid (k.written out) (k.faults out)) s))
    (sym c.after_writing.ensures.after)
    (passed_on_asked asked before mid (k.written out) (k.faults out) c.run-status.result c.finish-out.result.1 serves on
    (λ nothing.
    let stands = c.run-status.ensures.unwritten nothing in
    let idle = c.finish-out.ensures.idle (ap gathered_held stands ∙ c.new-gathered.ensures.held) in
    let same : out ≡ c.args.out = idle.0 ∙ ap gathered_sink stands ∙ c.new-gathered.ensures.sink in
    (ap k.written same, ap k.faults same, idle.1)))

pub returns-clause-complete : goal.returns-clause-complete
returns-clause-complete g c = λ stood. decided_asked (request_of c.args.arguments.now) _ _ c.after_writing.result (returns-clause-serves g c) stood
