-- Who waits for what is there: nobody.
pub mod Semaphores
pub mod Queues
pub mod Joiners
