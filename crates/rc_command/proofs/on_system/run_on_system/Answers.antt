use Rattle.host_system.specs.Hosts.{HostState, settings_of}
use Rattle.initd_laws.proofs.Children.{children_all}
use Rattle.rc_command.proofs.on_system.run_on_system.Goals as goal

pub returns : goal.returns
returns g c =
    let host : HostState = c.run_words-status.new.host in
    record {
      targets = λ numbers.
          (children_all (settings_of host) host.calls host.held host.asked c.calls-calls.ensures.own numbers).keeps;
    }
