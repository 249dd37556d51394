-- A machine whose places are carried over to another type. All of it is this project's own.
use Rattle.std.specs.Prelude.{map, ◌≡◌}
use Rattle.rules_machine.specs.declared.frame.BodyOf.{BodyOf}
use Rattle.rules_machine.specs.Bodies.{Bodies, Seen}
use Rattle.rules_machine.specs.State.{Frame, Machine, Thread}
use Rattle.rules_machine.specs.Turns.{Turn}
use Rattle.rules_machine.specs.Runs.{Ran}

-- `carry` gives the place in the other type, by the body that it is in
module _ {P Q : Type 0} (carry : BodyOf → P → Q) where
  abbrev pub frame_carried : Frame P → Frame Q
  frame_carried f = record {
    kind = f.kind;
    body = f.body;
    place = carry f.body f.place;
    register = f.register;
    result = f.result;
    value = f.value;
    left = f.left;
  }

  abbrev pub thread_carried : Thread P → Thread Q
  thread_carried th = record {
    status = th.status;
    policy = th.policy;
    server = th.server;
    slice = th.slice;
    ticks = th.ticks;
    mask = th.mask;
    frames = map frame_carried th.frames;
    is_requested = th.is_requested;
    is_enabled = th.is_enabled;
    is_ending = th.is_ending;
    cleanups = th.cleanups;
    exit_value = th.exit_value;
    joiner = th.joiner;
  }

  abbrev pub machine_carried : Machine P → Machine Q
  machine_carried m = record {
    now = m.now;
    clock = m.clock;
    last = m.last;
    next_serial = m.next_serial;
    killed = m.killed;
    quantum = m.quantum;
    lists = m.lists;
    threads = map thread_carried m.threads;
    mutexes = m.mutexes;
    semaphores = m.semaphores;
    queues = m.queues;
    timers = m.timers;
    actions = m.actions;
    pending = m.pending;
  }

  abbrev pub turn_carried : Turn P → Turn Q
  turn_carried s = record { machine = machine_carried s.machine; direct = s.direct; events = s.events }

  abbrev pub ran_carried : Ran P → Ran Q
  ran_carried r = record { machine = machine_carried r.machine; events = r.events }

  -- both know the same of bodies
  pub record Agree (p : Bodies P) (q : Bodies Q) : Type 0 where
    pub start : (b : BodyOf) → q.start b ≡ carry b (p.start b)
    pub unit : (b : BodyOf) (place : P) (seen : Seen) → (q.next b (carry b place) seen).unit ≡ (p.next b place seen).unit
    pub place : (b : BodyOf) (place : P) (seen : Seen) → (q.next b (carry b place) seen).place ≡ carry b (p.next b place seen).place
    pub register : (b : BodyOf) (place : P) (seen : Seen) → (q.next b (carry b place) seen).register ≡ (p.next b place seen).register
